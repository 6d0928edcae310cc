-- The invariants of `try_images::differing`.
use Rattle.std.proofs.Common.{◌≤◌}
use Rattle.try_images.proofs.differing.Given as goal

abbrev pub invariant-loop-i : goal.invariant-loop-i
invariant-loop-i l = l.count ≤ l.i
