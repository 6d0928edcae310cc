-- `port_unmap_all::emit_ports` meets its contract.
use mathlib.Core.Path.{refl, sym, ◌∙◌}
use native.Mathlib.Omega.{arith}
use Rattle.log_entries.specs.View.{lent_of}
use Rattle.net_memory.specs.View.{memory_of}
use Rattle.net_memory.proofs.Sized.{reads_length}
use Rattle.port_unmap_all.proofs.Short.{reads_are}
use Rattle.port_unmap_all.proofs.Walk.{going_start, going_turn, going_end}
use Rattle.port_unmap_all.proofs.emit_ports.Goals as goal

pub loop-i-init : goal.loop-i-init
loop-i-init c =
    let v = c.args in
    (refl, going_start (memory_of v.given.memory v.given.nets.now v.given.trits.now) v.output.now c.ports_used-count.result v.after.now (lent_of v.log.now))

pub emit_at-requires : goal.emit_at-requires
emit_at-requires c = omega (arith, c.ports_used-count.ensures.0)

pub loop-i-preserved : goal.loop-i-preserved
loop-i-preserved c =
    let v = c.args in
    let h = c.loop-i in
    let u = c.emit_at in
    (u.auto.after ∙ h.invariant.0, going_turn (memory_of v.given.memory v.given.nets.now v.given.trits.now) v.output.now c.ports_used-count.result v.after.now (lent_of v.log.now) h.i h.after u.new.after (lent_of h.log) (lent_of u.new.log) (omega arith) h.invariant.1 u.ensures)

pub shape_of-after : goal.shape_of-after
shape_of-after c = c.loop-i.invariant.0

pub returns : goal.returns
returns c =
    let v = c.args in
    let h = c.loop-i in
    going_end (memory_of v.given.memory v.given.nets.now v.given.trits.now) v.output.now c.ports_used-count.result v.after.now (lent_of v.log.now) h.i h.after (lent_of h.log) (omega arith) (reads_are v.given.memory v.given.nets.now v.given.trits.now (reads_length v.given.memory _ c.well_formed.1.1.1.0.1.1.0 v.given.nets.now v.given.trits.now) ∙ sym c.ports_used-count.ensures.0) h.invariant.1
