-- `try_merges::call_in` meets its contract.
use native.Mathlib.Omega.{arith}
use lib.ListN.{length-take}
use Rattle.try_merges.proofs.call_in.Goals as goal

pub slice_bounds-call-end-2 : goal.slice_bounds-call-end-2
slice_bounds-call-end-2 c = simp length-take (omega arith)
