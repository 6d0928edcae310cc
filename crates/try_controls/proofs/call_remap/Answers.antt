-- `try_controls::call_remap` meets its contract.
use native.Mathlib.Omega.{arith}
use lib.ListN.{length-take}
use Rattle.try_controls.proofs.call_remap.Goals as goal

pub slice_bounds-remap_reset_over_enable-end-2 : goal.slice_bounds-remap_reset_over_enable-end-2
slice_bounds-remap_reset_over_enable-end-2 c = simp length-take (omega arith)
