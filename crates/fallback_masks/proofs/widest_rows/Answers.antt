-- `fallback_masks::widest_rows` meets its contract.
use native.Mathlib.Omega.{arith}
use Rattle.fallback_masks.proofs.Numbers.{widest_is}
use Rattle.fallback_masks.proofs.widest_rows.Goals as goal

pub returns : goal.returns
returns c = (λ trits. widest_is _ _ (c.fallback_swizzle-s.ensures trits), omega arith)
