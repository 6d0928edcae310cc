-- The invariants of `fallback_masks::mask_runs`.
use Prim.Native.Nat.{◌≤◌}
use Rattle.fallback_masks.proofs.Numbers.{Counting}
use Rattle.fallback_masks.proofs.mask_runs.Given as goal

abbrev pub invariant-loop-net : goal.invariant-loop-net
invariant-loop-net l = (l.runs ≤ l.net-index) × Counting l.width l.mask l.left l.last l.runs l.net-index
