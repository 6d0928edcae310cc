-- The invariants of `image_check::mark_all`.
use Rattle.image_check.proofs.Marking.{Marking}
use Rattle.image_check.proofs.mark_all.Given as goal

abbrev pub invariant-loop-entry : goal.invariant-loop-entry
invariant-loop-entry l = Marking l.base l.entries l.marks l.entry-index
