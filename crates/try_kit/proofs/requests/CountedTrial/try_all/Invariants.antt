-- The invariants of `try_kit::requests::CountedTrial::try_all`.
use Rattle.try_kit.specs.Numbered.{no_case, cases_more}
use Rattle.try_kit.proofs.requests.CountedTrial.try_all.Given as goal

abbrev pub invariant-loop-k : goal.invariant-loop-k
invariant-loop-k g l = cases_more l.k no_case l.t
