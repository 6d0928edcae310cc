-- `try_controls::call_pos` meets its contract.
use native.Mathlib.Omega.{arith}
use lib.ListN.{length-take}
use Rattle.try_controls.proofs.call_pos.Goals as goal

pub slice_bounds-into_pos-end-2 : goal.slice_bounds-into_pos-end-2
slice_bounds-into_pos-end-2 c = simp length-take (omega arith)
