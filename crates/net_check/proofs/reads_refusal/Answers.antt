-- `net_check::reads_refusal` meets its contract.
use mathlib.Core.Path.{◌≡◌, refl, ap, ◌∙◌}
use Prim.Native.Nat.{◌<◌, min}
use native.Mathlib.Omega.{arith}
use lib.ListN.{get_or, take, length-take}
use lib.Seq.{get_or-take}
use Rattle.lists.specs.Choice.{least}
use Rattle.lists.specs.Lists.{part}
use Rattle.net_memory.specs.declared.MemoryReadPort.{MemoryReadPort}
use Rattle.net_memory.specs.View.{reads_of, memory_of, read_by, read_port, trit_size, addr_size, no_read_port}
use Rattle.rules.specs.Refusal.{number_if}
use Rattle.net_check.specs.Number.{read_number}
use Rattle.lists.proofs.All.{least_turn, least_end}
use Rattle.lists.proofs.Sum.{sum_take_more}
use Rattle.net_memory.proofs.Ports.{no_read_of}
use Rattle.net_memory.proofs.Sized.{read_ports_8, reads_length, writes_length}
use Rattle.net_check.proofs.Ports.{read_is}
use Rattle.net_check.proofs.reads_refusal.Goals as goal

pub loop-port-preserved : goal.loop-port-preserved
loop-port-preserved c =
    let v = c.args in
    let g = v.given in
    let l = c.loop-port in
    let i = l.port-index in
    let k = c.ports_used-count in
    let n = reads_length g.memory _ c.well_formed.0.1.1.0 g.nets.now g.trits.now in
    let w = writes_length g.memory _ c.well_formed.0.1.1.0 g.nets.now in
    let s = rw c.of-bounds.ensures at c.read_refusal.ensures in
    let t : i < min 8 g.memory.read_count = omega (arith, length-take k.result g.memory.read_ports) in
    let p : get_or (take k.result g.memory.read_ports) i no_read_port ≡ read_port g.memory i = get_or-take k.result g.memory.read_ports i no_read_port (omega (arith, k.ensures.0)) in
    let a = c.addr_size.ensures.0 ∙ ap addr_size p in
    let b = c.trit_size.ensures.0 ∙ ap trit_size p in
    let x = c.part.ensures.part ∙ (λ j. part (l.invariant.0 j) (a j) g.nets.now) in
    let y = c.part-in-loop-port.ensures.part ∙ (λ j. part (l.invariant.1 j) (b j) g.trits.now) in
    let q = c.lower-refusal.ensures ∙ ap (least (number_if l.refusal)) (read_is g.memory g.nets.now g.trits.now v.next i _ t w (number_if c.read_refusal.result) _ _ x y
    (λ m d e f. s m d e f ∙ ap (λ (r : MemoryReadPort). read_number v.next m (read_by r c.part.result.now c.part-in-loop-port.result.now)) p)) in (
      omega (arith, c.addr_size-at.ensures.0, ap addr_size p, sum_take_more addr_size no_read_port refl g.memory.read_ports i),
      omega (arith, c.trit_size-from.ensures.0, ap trit_size p, sum_take_more trit_size no_read_port refl g.memory.read_ports i),
      omega arith,
      omega arith,
      least_turn (read_number v.next (memory_of g.memory g.nets.now g.trits.now)) (reads_of g.memory g.nets.now g.trits.now) i (number_if l.refusal) (number_if c.lower-refusal.result) no_read_of (omega (arith, n, t)) q l.invariant.4,
    )

pub returns : goal.returns
returns c =
    let v = c.args in
    let g = v.given in
    let k = c.ports_used-count in
    let n = reads_length g.memory _ c.well_formed.0.1.1.0 g.nets.now g.trits.now in
    least_end (read_number v.next (memory_of g.memory g.nets.now g.trits.now)) (reads_of g.memory g.nets.now g.trits.now) c.loop-port.port-index (number_if c.loop-port.refusal)
    (omega (arith, n, length-take k.result g.memory.read_ports, read_ports_8 g.memory _ c.well_formed.0.1.1.0)) c.loop-port.invariant.4
