-- The invariants of `record_bits::Group::spread_left`.
use Rattle.record_bits.proofs.Groups.{trits_left}
use Rattle.record_bits.specs.Groups.{group_trits}
use mathlib.Core.Path.{◌≡◌}
use Prim.Native.Nat.{◌+◌}
use lib.ListN.{length}
use lib.Seq.{sets}
use Rattle.record_bits.proofs.Group.spread_left.Given as goal

abbrev pub invariant-loop-i : goal.invariant-loop-i
invariant-loop-i l = (length l.image ≡ length l.initial.image) × (sets l.image (l.at + l.i) (trits_left l.count l.known l.value l.i) ≡ sets l.initial.image l.at (group_trits l.count l.fn.self.known l.fn.self.value))
