-- What came so far, at most a chunk a turn.
use Rattle.std.proofs.Common.{◌*◌, ◌≤◌}
use Rattle.lister.proofs.rest.Given as goal

abbrev pub invariant-loop : goal.invariant-loop
invariant-loop g l = l.count ≤ 65536 * l.counter
