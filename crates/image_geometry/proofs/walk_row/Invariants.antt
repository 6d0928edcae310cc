-- The invariants of `image_geometry::walk_row`.
use Prim.Native.Nat.{◌-◌, ◌/◌, ◌^◌}
use Rattle.image_geometry.proofs.Walking.{Walking}
use Rattle.image_geometry.proofs.walk_row.Given as goal

abbrev pub invariant-loop-i : goal.invariant-loop-i
invariant-loop-i l = Walking l.mask l.hard l.row l.w (l.mask / 2 ^ l.i) (l.row / 2 ^ l.i) (l.i-end - l.i)
