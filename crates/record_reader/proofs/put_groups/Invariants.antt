-- The invariants of `record_reader::put_groups`.
use Rattle.std.proofs.Common.{◌≡◌, ◌+◌, ◌≤◌, length}
use lib.Seq.{sets}
use Rattle.record_bits.specs.Groups.{trits_by}
use Rattle.rules.specs.Record.{bits_of}
use Rattle.record_reader.specs.Reading.{many_bytes}
use Rattle.record_reader.proofs.Arrays.{left}
use Rattle.record_reader.proofs.put_groups.Given as goal

abbrev pub invariant-loop-j : goal.invariant-loop-j
invariant-loop-j l =
    let j = l.j-iterator.count in
    let ks = l.j-iterator.iter.a.rest.now in
    let vs = l.j-iterator.iter.b.rest.now in
    (length l.image ≡ length l.initial.image) × (length ks ≡ length vs) × (j + length ks ≤ many_bytes)
    × (left l.image l.count j ks vs ≡ sets l.initial.image 0 (trits_by l.count (bits_of l.ks) (bits_of l.vs)))
