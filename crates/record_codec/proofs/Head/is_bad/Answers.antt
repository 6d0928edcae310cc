-- `record_codec::Head::is_bad` meets its contract.
use Rattle.rules.specs.Conditions.{bad_head}
use Rattle.rules.specs.Record.{size_trits, array_bytes, record_bytes}
use Rattle.record_reader.proofs.Runs.{mark_word, head_words_lem}
use Rattle.lists.proofs.Choice.{or_stop, or_skip, not_is_true, not_is_false}
use mathlib.Core.Path.{sym, ap, ◌∙◌}
use mathlib.Core.Bool.{not}
use Prim.Native.Nat.{ℕ, ◌+◌, ◌*◌}
use lib.Dec.{eqb}
use borrow.Author.Tests.{lt-ltb, le-ltb, eq-eqb, ne_eqb}
use Rattle.record_codec.proofs.Head.is_bad.Goals as goal

pub returns-then-self-lt-HEAD_BYTES : goal.returns-then-self-lt-HEAD_BYTES
unfolding bad_head
returns-then-self-lt-HEAD_BYTES c = or_stop _ (lt-ltb _ _ c.if-self-lt-HEAD_BYTES.true)

pub returns-then-word_of-ne-RECORD_MARK : goal.returns-then-word_of-ne-RECORD_MARK
unfolding bad_head
returns-then-word_of-ne-RECORD_MARK c =
    let b = c.args.self.now.bytes.now in
    let h = c.if-self-lt-HEAD_BYTES.false in
    let m = c.word_of.ensures ∙ mark_word b h c.args.self.now.words c.args.self.now.read in
    let u = not_is_true _ (ne_eqb _ _ c.if-word_of-ne-RECORD_MARK.true) in
    or_skip (le-ltb _ _ h) (u ∙ or_stop _ (sym (ap (λ (n : ℕ). not (eqb n 5)) m) ∙ u))

pub returns-else-word_of-ne-RECORD_MARK : goal.returns-else-word_of-ne-RECORD_MARK
unfolding bad_head record_bytes
returns-else-word_of-ne-RECORD_MARK c =
    let b = c.args.self.now.bytes.now in
    let h = c.if-self-lt-HEAD_BYTES.false in
    let m = c.word_of.ensures ∙ mark_word b h c.args.self.now.words c.args.self.now.read in
    let t = c.trits.ensures.0 ∙ ap size_trits (head_words_lem b h c.args.self.now.words c.args.self.now.read) in
    or_skip (le-ltb _ _ h) (or_skip (not_is_false _ (sym (ap (λ (n : ℕ). eqb n 5) m) ∙ eq-eqb _ _ c.if-word_of-ne-RECORD_MARK.false))
    (ap (λ (n : ℕ). not (eqb c.args.total n)) (c.bytes_for.ensures ∙ ap (λ (n : ℕ). 12 + 2 * array_bytes n) t)))
