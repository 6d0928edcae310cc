-- `port_emulate::Emulation::delay_ports` meets its contract.
use mathlib.Core.Path.{refl, sym, ap, ◌∙◌}
use lib.Seq.{get_or-take}
use Prim.Native.Nat.{◌+◌, ◌<◌, min}
use native.Mathlib.Omega.{arith}
use Rattle.lists.proofs.Sum.{sum_take_more}
use Rattle.rules.specs.Limits.{max_ports}
use Rattle.log_entries.specs.View.{lent_of}
use Rattle.net_memory.specs.View.{no_write_port, write_size}
use Rattle.port_emulate.proofs.Bounds.{writes_by}
use Rattle.port_emulate.proofs.Ports.{starts, turned, going_fit, going_ends}
use Rattle.port_emulate.proofs.Emulation.delay_ports.Goals as goal

pub loop-j-init : goal.loop-j-init
loop-j-init c =
    let v = c.args in
    (omega arith, refl, starts v.self.memory.now v.self.all_x v.nets.now (lent_of v.log.now))

pub delay_port-requires : goal.delay_port-requires
delay_port-requires c =
    let v = c.args in
    let m = v.self.memory.now in
    let h = c.loop-j in
    let g = h.invariant.2 in
    let n = writes_by m v.self.eight v.nets.now in
    let i : h.j < min max_ports m.write_count = omega (arith, c.ports_used-count.ensures.0) in
    record {
      there = i;
      port_is = get_or-take c.ports_used-count.result m.write_ports h.j no_write_port (omega (arith, i, c.ports_used-count.ensures.0));
      at_is = h.invariant.1;
      low = omega (arith, h.invariant.0, i);
      room = omega (arith, c.requires.1, g.size);
      fit = going_fit m v.self.all_x v.nets.now (lent_of v.log.now) h.j h.nets (lent_of h.log) g c.requires.0 (omega (arith, n, i));
    }

pub overflow_add-at : goal.overflow_add-at
overflow_add-at c =
    omega (arith, c.loop-j.invariant.0, c.write_size-at.ensures.1, c.ports_used-count.ensures.1)

pub loop-j-preserved : goal.loop-j-preserved
loop-j-preserved c =
    let v = c.args in
    let m = v.self.memory.now in
    let h = c.loop-j in
    let p = c.delay_port in
    let g = h.invariant.2 in
    let n = writes_by m v.self.eight v.nets.now in
    let i : h.j < min max_ports m.write_count = omega (arith, c.ports_used-count.ensures.0) in
    let z = c.write_size-at.ensures.0 ∙ ap write_size (get_or-take c.ports_used-count.result m.write_ports h.j no_write_port (omega (arith, i, c.ports_used-count.ensures.0))) in (
      omega (arith, h.invariant.0, c.write_size-at.ensures.1),
      (λ x. h.invariant.1 x + z x) ∙ sym (sum_take_more write_size no_write_port refl m.write_ports h.j),
      turned m v.self.all_x v.nets.now (lent_of v.log.now) h.j h.nets p.new.nets (lent_of h.log) (lent_of p.new.log) g p.ensures (omega (arith, n, i)),
    )

pub shape_of-nets : goal.shape_of-nets
shape_of-nets c = c.loop-j.invariant.2.size

pub returns : goal.returns
returns c =
    let v = c.args in
    let m = v.self.memory.now in
    let h = c.loop-j in
    let n = writes_by m v.self.eight v.nets.now in
    going_ends m v.self.all_x v.nets.now (lent_of v.log.now) h.j h.nets (lent_of h.log) h.invariant.2 (omega (arith, n, c.ports_used-count.ensures.0))
