-- `try_kit::requests::Trial::try_all` meets its contract.
use native.Mathlib.Numerals.{add-one}
use Rattle.try_kit.specs.Numbered.{turns}
use Rattle.try_kit.proofs.requests.Trial.try_all.Goals as goal

pub loop-place-init : goal.loop-place-init
unfolding turns
loop-place-init g c = c.start-t.ensures

pub loop-place-preserved : goal.loop-place-preserved
unfolding turns
loop-place-preserved g c = rw add-one (c.loop-place.t, (c.loop-place.invariant, c.try_case-t.ensures))
