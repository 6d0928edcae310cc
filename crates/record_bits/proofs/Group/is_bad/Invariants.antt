-- The invariants of `record_bits::Group::is_bad`.
use Rattle.record_bits.proofs.Groups.{bad_left}
use Rattle.record_bits.specs.Groups.{bad_group}
use mathlib.Core.Path.{◌≡◌}
use Rattle.record_bits.proofs.Group.is_bad.Given as goal

abbrev pub invariant-loop-i : goal.invariant-loop-i
invariant-loop-i l = bad_left l.count l.known l.value l.i ≡ bad_group l.count l.fn.self.known l.fn.self.value
