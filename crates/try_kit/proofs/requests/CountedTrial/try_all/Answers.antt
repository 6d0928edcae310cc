-- `try_kit::requests::CountedTrial::try_all` meets its contract.
use native.Mathlib.Numerals.{add-one}
use Rattle.try_kit.specs.Numbered.{turns, cases_more}
use Rattle.try_kit.proofs.requests.CountedTrial.try_all.Goals as goal

pub loop-k-init : goal.loop-k-init
unfolding cases_more turns
loop-k-init g c = c.start-t.ensures

pub loop-k-preserved : goal.loop-k-preserved
unfolding cases_more turns
loop-k-preserved g c = rw add-one (c.loop-k.t, (c.loop-k.invariant, c.try_case-t.ensures))
