-- The invariants of `record_bits::Group::of`.
use Rattle.std.proofs.Common.{◌≡◌, map}
use Rattle.rules.specs.Record.{byte_of, known_bit, value_bit}
use Rattle.record_bits.proofs.Packs.{byte_on}
use Rattle.record_bits.proofs.Group.of.Given as goal

abbrev pub invariant-loop-t : goal.invariant-loop-t
invariant-loop-t l = (byte_on known_bit l.t-iterator.iter.rest.now l.known ≡ byte_of (map known_bit l.initial.t-iterator.iter.rest.now)) × (byte_on value_bit l.t-iterator.iter.rest.now l.value ≡ byte_of (map value_bit l.initial.t-iterator.iter.rest.now))
