-- `record_codec::put_word` meets its contract.
use Rattle.std.proofs.Common.{ℕ, ◌≡◌, ◌/◌, ◌%◌, ◌<◌, arith, ap, ◌∙◌}
use lib.Seq.{sets}
use Rattle.std.specs.Int.{w16, to_le_bytes}
use Rattle.rules.specs.Record.{word16}
use Rattle.record_codec.proofs.put_word.Goals as goal

as_word : (w : ℕ) → w < 65536 → to_le_bytes w16 w ≡ word16 w
unfolding word16
as_word w h = let e : w / 256 % 256 ≡ w / 256 = omega arith in rw e

pub returns : goal.returns
returns c = c.copy.ensures ∙ ap (sets c.args.out.now c.args.at) (c.to_le_bytes.ensures ∙ as_word c.args.w c.requires)
