-- `record_codec::bytes_for` meets its contract.
use Rattle.record_codec.proofs.Heads.{array_bytes_lem}
use mathlib.Core.Path.{ap, ◌∙◌}
use Prim.Native.Nat.{ℕ, ◌+◌, ◌*◌}
use Rattle.record_codec.proofs.bytes_for.Goals as goal

pub returns : goal.returns
returns c = ap (λ (n : ℕ). 12 + 2 * n) (c.div_ceil.ensures ∙ array_bytes_lem c.args.trits)
