-- The invariants of `record_codec::bad_arrays`.
use Rattle.std.proofs.Common.{◌≡◌, ◌+◌, ◌≤◌, length}
use Rattle.rules.specs.Record.{bits_of}
use Rattle.record_bits.specs.Groups.{bad_by}
use Rattle.record_reader.specs.Reading.{many_bytes}
use Rattle.record_codec.proofs.Arrays.{left}
use Rattle.record_codec.proofs.bad_arrays.Given as goal

abbrev pub invariant-loop-j : goal.invariant-loop-j
invariant-loop-j l =
    let j = l.j-iterator.count in
    let ks = l.j-iterator.iter.a.rest.now in
    let vs = l.j-iterator.iter.b.rest.now in
    (length ks ≡ length vs) × (j + length ks ≤ many_bytes) × (left l.count j ks vs ≡ bad_by l.count (bits_of l.ks) (bits_of l.vs))
