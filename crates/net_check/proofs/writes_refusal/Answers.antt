-- `net_check::writes_refusal` meets its contract.
use mathlib.Core.Path.{◌≡◌, refl, ap, ◌∙◌}
use Prim.Native.Nat.{◌<◌, min}
use native.Mathlib.Omega.{arith}
use mathlib.Core.List.{[]}
use lib.ListN.{get_or, take, length-take}
use lib.Seq.{get_or-take}
use Rattle.lists.specs.Choice.{least}
use Rattle.lists.specs.Lists.{part}
use Rattle.net_memory.specs.declared.MemoryWritePort.{MemoryWritePort}
use Rattle.net_memory.specs.View.{writes_of, memory_of, write_by, write_port, write_size, no_write_port}
use Rattle.rules.specs.Limits.{max_ports}
use Rattle.rules.specs.Refusal.{number_if}
use Rattle.net_check.specs.declared.Bounds.{Bounds}
use Rattle.net_check.specs.Number.{write_number}
use Rattle.lists.proofs.All.{least_turn, least_end}
use Rattle.lists.proofs.Sum.{sum_take_more}
use Rattle.net_memory.proofs.Ports.{no_write_of}
use Rattle.net_memory.proofs.Sized.{write_ports_8, writes_length}
use Rattle.net_check.proofs.Ports.{write_is}
use Rattle.net_check.proofs.writes_refusal.Goals as goal

pub loop-port-preserved : goal.loop-port-preserved
loop-port-preserved c =
    let v = c.args in
    let l = c.loop-port in
    let i = l.port-index in
    let b = c.of-bounds.ensures in
    let k : c.of-bounds.result.writes ≡ min max_ports v.m.write_count = ap (λ (b : Bounds). b.writes) b in
    let f = rw b at c.write_refusal.ensures in
    let n = writes_length v.m _ c.well_formed.0 v.nets.now in
    let t : i < min 8 v.m.write_count = omega (arith, length-take c.of-bounds.result.writes v.m.write_ports) in
    let p : get_or (take (min max_ports v.m.write_count) v.m.write_ports) i no_write_port ≡ write_port v.m i = get_or-take (min max_ports v.m.write_count) v.m.write_ports i no_write_port t in
    let o : get_or (take c.of-bounds.result.writes v.m.write_ports) i no_write_port ≡ write_port v.m i = rw k p in
    let z = c.write_size-size.ensures.0 ∙ ap write_size o in
    let x = c.part.ensures.part ∙ (λ j. part (l.invariant.0 j) (z j) v.nets.now) in (
      omega (arith, z, sum_take_more write_size no_write_port refl v.m.write_ports i),
      omega arith,
      λ trits. let q = c.lower-refusal.ensures ∙ ap (least (number_if l.refusal)) (write_is v.m v.nets.now trits v.next i t (number_if c.write_refusal.result) c.part.result.now x
          (λ m d w. f m d w ∙ ap (λ (a : MemoryWritePort). write_number v.next m (write_by a c.part.result.now [])) p)) in
          least_turn (write_number v.next (memory_of v.m v.nets.now trits)) (writes_of v.m v.nets.now) i (number_if l.refusal) (number_if c.lower-refusal.result) no_write_of (omega (arith, n, t)) q (l.invariant.2 trits),
    )

pub returns : goal.returns
returns c =
    let v = c.args in
    let b = c.of-bounds.ensures in
    let k : c.of-bounds.result.writes ≡ min max_ports v.m.write_count = ap (λ (b : Bounds). b.writes) b in
    let n = writes_length v.m _ c.well_formed.0 v.nets.now in
    λ trits. least_end (write_number v.next (memory_of v.m v.nets.now trits)) (writes_of v.m v.nets.now) c.loop-port.port-index (number_if c.loop-port.refusal)
    (omega (arith, n, length-take c.of-bounds.result.writes v.m.write_ports, write_ports_8 v.m _ c.well_formed.0)) (c.loop-port.invariant.2 trits)
