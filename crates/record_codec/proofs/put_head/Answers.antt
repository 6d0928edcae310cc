-- `record_codec::put_head` meets its contract.
use Rattle.rules.specs.Record.{word16}
use Rattle.std.proofs.Common.{ℕ, ap, ◌∙◌}
use lib.Seq.{sets}
use Rattle.record_sizes.specs.View.{view_sizes}
use Rattle.record_codec.proofs.Writing.{six}
use Rattle.record_codec.proofs.put_head.Goals as goal

pub returns : goal.returns
returns c =
    let a = c.args in
    six (view_sizes a.sizes) a.out.now c.put_word.new.out c.put_word-2.new.out c.put_word-3.new.out c.put_word-4.new.out c.put_word-5.new.out c.put_word-6.new.out (c.put_word.ensures ∙ ap (λ (n : ℕ). sets a.out.now 0 (word16 n)) c.from.ensures) c.put_word-2.ensures c.put_word-3.ensures c.put_word-4.ensures c.put_word-5.ensures c.put_word-6.ensures
