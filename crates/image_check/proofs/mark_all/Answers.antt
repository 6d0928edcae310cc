-- `image_check::mark_all` meets its contract.
use Rattle.image_check.proofs.Marking.{marking_starts, marking_turn, marking_ends}
use Rattle.image_check.proofs.mark_all.Goals as goal

pub loop-entry-init : goal.loop-entry-init
loop-entry-init c = marking_starts _ _ _ c.requires

pub loop-entry-preserved : goal.loop-entry-preserved
loop-entry-preserved c = marking_turn _ _ _ _ c.loop-entry.invariant _ c.loop-entry-test.true c.mark.ensures

pub returns : goal.returns
returns c = marking_ends _ _ _ _ c.loop-entry.invariant c.loop-entry-test.false
