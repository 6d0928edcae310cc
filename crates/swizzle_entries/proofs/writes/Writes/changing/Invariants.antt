-- The invariants of `swizzle_entries::writes::Writes::changing`.
use Rattle.std.proofs.Common.{◌≡◌, ◌≤◌, ◌+◌, ◌*◌, length}
use Rattle.std.proofs.lemmas.List.Edits.{sets}
use Rattle.rules.specs.Cell.{Mem}
use Rattle.rules.specs.Geometry.{changing}
use Rattle.swizzle_entries.specs.Calls.{writes_in}
use Rattle.swizzle_entries.proofs.Changes.{left}
use Rattle.swizzle_entries.proofs.writes.Writes.changing.Given as goal

abbrev pub invariant-loop-port : goal.invariant-loop-port
invariant-loop-port l =
    let w = l.fn.self in
    let ps = l.port-iterator.a.rest.now in
    let gs = l.port-iterator.b.rest.now in
    record {
      most : l.at + length ps * 0x300000000 ≤ 0x1800000000;
      few : l.found + length ps ≤ 8;
      count : (m : Mem) → m.width ≡ w.width → l.found + length (left m l.bit w.nets.now ps l.at gs) ≡ length (changing m l.bit (writes_in w) w.granularities.now);
      stored : (m : Mem) → m.width ≡ w.width → sets l.out l.found (left m l.bit w.nets.now ps l.at gs) ≡ sets l.initial.out 0 (changing m l.bit (writes_in w) w.granularities.now);
    }
