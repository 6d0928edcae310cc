-- `port_unmap::Clocked::emit` meets its contract.
use native.Mathlib.Omega.{arith}
use mathlib.Core.Path.{ap}
use lib.ListN.{length, length-take}
use Rattle.log_entries.specs.View.{lent_of}
use Rattle.net_memory.specs.Given.{mem_of}
use Rattle.net_memory.specs.View.{clocked_by}
use Rattle.net_memory.proofs.Sized.{relations_8}
use Rattle.port_unmap.specs.Ready.{own_flip_flop}
use Rattle.port_unmap.proofs.Emitted.{port_from}
use Rattle.port_unmap.proofs.Clocked.emit.Goals as goal

pub returns-clause-log_after : goal.returns-clause-log_after
returns-clause-log_after c =
    let v = c.args in
    let p = v.self.now in
    let o = c.read_port-own in
    let q = o.result.port in
    let e = c.parts_of-port.ensures.reading o.ensures.port in
    let u = c.emit_unmap in
    λ h.
    port_from (mem_of p.given) p.i v.output.now (clocked_by p.controls q o.result.trits.now) (own_flip_flop p.given.memory p.given.trits.now p.i p.controls) c.parts_of-port.result.flip_flop _ _ _ _ _ (lent_of v.log.now) (lent_of u.new.log) e.0 e.1 e.2 e.3 c.parts_of-port.ensures.flip_flop c.parts_of-port.ensures.relations
    (omega (arith, ap length c.parts_of-port.ensures.relations, length-take q.relations_len q.relations, relations_8 q _ o.type_inv.1.1.0)) (λ k. clocked_by p.controls (o.ensures.own h k) (o.ensures.trits.0 k)) (u.ensures.by_index p.given.trits.now)
