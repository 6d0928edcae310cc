-- The invariants of `try_kit::requests::Trial::try_all`.
use Rattle.try_kit.specs.Numbered.{no_case, turns}
use Rattle.try_kit.proofs.requests.Trial.try_all.Given as goal

abbrev pub invariant-loop-place : goal.invariant-loop-place
invariant-loop-place g l = turns g.Self.Trial.turn l.place no_case l.t
