-- The invariants of `try_kit::paint::painted`.
use Rattle.try_kit.specs.Paint.{pattern_from}
use mathlib.Core.Path.{◌≡◌}
use Rattle.try_kit.proofs.paint.painted.Given as goal

abbrev pub invariant-loop-i : goal.invariant-loop-i
invariant-loop-i g l = pattern_from g.T.PartialEq.eq g.T.Pattern.pattern l.room l.i ≡ pattern_from g.T.PartialEq.eq g.T.Pattern.pattern l.room l.from
