-- `swizzle_writes::swizzle_writes` meets its contract.
use Prim.Native.Nat.{◌<◌, min}
use native.Mathlib.Omega.{arith}
use lib.ListN.{length, length-take}
use lib.Seq.{get_or-take}
use Rattle.rules.specs.Limits.{max_ports}
use Rattle.log_entries.specs.View.{lent_of}
use Rattle.net_memory.specs.View.{memory_of}
use Rattle.net_memory.specs.Ports.{write_of}
use Rattle.image_geometry.specs.View.{layout_of}
use Rattle.swizzle_writes.specs.Placed.{Placed, Filled, none_filled}
use Rattle.swizzle_writes.proofs.Steps.{at_gave, turn_by, end_by}
use Rattle.swizzle_writes.proofs.swizzle_writes.Goals as goal

pub loop-j-init : goal.loop-j-init
loop-j-init c = λ trits l v g. g

pub loop-j-preserved : goal.loop-j-preserved
loop-j-preserved c =
    let v = c.args in
    let h = c.loop-j in
    let p = c.place_port-p in
    let w = c.write_port-write in
    let q = layout_of v.memories.layout in
    let f : Filled = record { room = h.to; at = h.used; ports = h.ports } in
    let x : Placed = record { room = p.new.to; next = p.result.next; addr_len_of = p.result.addr_len } in
    let n = c.min-count.result in
    let k : h.j < n = omega (arith, c.loop-j-test.true, length-take n v.wide.now) in
    let a : h.j < min max_ports v.given.memory.write_count = omega (arith, k, c.min-count.ensures, c.ports_used.ensures.0) in
    let b : h.j < length v.wide.now = omega (arith, k, c.min-count.ensures) in
    λ trits. turn_by (memory_of v.given.memory v.given.nets.now trits) q v.memories.mems v.given.memory.write_ports (min max_ports v.given.memory.write_count) v.wide.now (none_filled v.to.now) (lent_of v.log.now) h.j _ w.result.port f x (lent_of h.log) (lent_of p.new.log) a b (get_or-take n v.wide.now h.j 0 k) (w.ensures.own a) (h.invariant trits)
    (at_gave v.given.memory v.given.nets.now v.given.trits.now trits q v.memories.mems h.j _ h.used h.to (write_of w.result) (lent_of h.log) (lent_of p.new.log) x w.ensures.port p.ensures)

pub returns : goal.returns
returns c =
    let v = c.args in
    let h = c.loop-j in
    λ trits. end_by (memory_of v.given.memory v.given.nets.now trits) (layout_of v.memories.layout) v.memories.mems v.given.memory.write_ports (min max_ports v.given.memory.write_count) v.wide.now (none_filled v.to.now) (lent_of v.log.now) h.j (record { room = h.to; at = h.used; ports = h.ports }) (lent_of h.log) (omega (arith, c.loop-j-test.false, c.min-count.ensures, c.ports_used.ensures.0, length-take c.min-count.result v.wide.now)) (h.invariant trits)
