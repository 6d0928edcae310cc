-- The invariants of `try_kit::paint::paint`.
use Rattle.try_kit.specs.Paint.{pattern_of}
use Rattle.try_kit.proofs.Turns.{left}
use mathlib.Core.Path.{◌≡◌}
use lib.ListN.{length}
use lib.Seq.{sets}
use Rattle.try_kit.proofs.paint.paint.Given as goal

abbrev pub invariant-loop-i : goal.invariant-loop-i
invariant-loop-i g l = (length l.room ≡ length l.initial.room) × (sets l.room l.i (left g.T.Pattern.pattern (length l.initial.room) l.i) ≡ pattern_of g.T.Pattern.pattern (length l.initial.room))
