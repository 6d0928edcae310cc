-- The invariants of `try_kit::paint::fill_trits`.
use mathlib.Core.Path.{◌≡◌}
use lib.ListN.{length}
use lib.Seq.{sets}
use Rattle.try_kit.specs.Paint.{trit_at_of, pattern_of}
use Rattle.try_kit.proofs.Turns.{left}
use Rattle.try_kit.proofs.paint.fill_trits.Given as goal

abbrev pub invariant-loop-i : goal.invariant-loop-i
invariant-loop-i l = (length l.room ≡ length l.initial.room) × (sets l.room l.i (left trit_at_of (length l.initial.room) l.i) ≡ pattern_of trit_at_of (length l.initial.room))
