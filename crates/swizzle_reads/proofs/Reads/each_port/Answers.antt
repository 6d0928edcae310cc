-- `swizzle_reads::Reads::each_port` meets its contract.
use mathlib.Core.Path.{◌≡◌, refl, ap, ◌∙◌}
use mathlib.Core.List.{List}
use Rattle.std.proofs.Common.{rules}
use Prim.Native.Nat.{ℕ, ◌<◌, min}
use native.Mathlib.Omega.{arith}
use lib.ListN.{length, get_or}
use Rattle.image_geometry.specs.View.{layout_of}
use Rattle.net_memory.specs.View.{read_port}
use Rattle.net_memory.specs.declared.MemoryReadPort.{MemoryReadPort}
use Rattle.net_memory.proofs.Sized.{read_ports_length}
use Rattle.lists.specs.Lists.{part}
use Rattle.rules.specs.Limits.{max_ports}
use Rattle.swizzle_reads.specs.Going.{going_of, in_ports, port_of, port_if}
use Rattle.swizzle_reads.proofs.Loop.{port_in, length_in, at_by, at_kept, ports_turn, ports_end, kept_turn}
use Rattle.swizzle_reads.proofs.Reads.each_port.Goals as goal

pub loop-i-init : goal.loop-i-init
loop-i-init c = record { in_range = omega arith; ports = refl; kept = λ k h. refl }

pub overflow_add-at : goal.overflow_add-at
overflow_add-at c = omega (arith, c.loop-i.invariant.in_range, c.loop-i-test.true, c.ports_used-i-end.ensures.1)

pub loop-i-preserved : goal.loop-i-preserved
loop-i-preserved c =
    let v = c.args in
    let h = c.loop-i in
    let p = c.read_port in
    let r = c.read_port-read in
    let m = v.given.memory in
    let nets = v.given.nets.now in
    let trits = v.given.trits.now in
    let q = layout_of v.rows.layout in
    let xs = in_ports m nets trits in
    let n = length_in m nets trits (read_ports_length m _ c.well_formed.1.1.1.1.0.1.1.0) in
    let l : h.i < length xs = omega (arith, n, c.ports_used-i-end.ensures.0, c.loop-i-test.true) in
    let b : h.i < min max_ports m.read_count = omega (arith, c.ports_used-i-end.ensures.0, c.loop-i-test.true) in
    let x = port_in m nets trits h.i b in
    let wide : c.unwrap_or.result ≡ get_or v.wide.now h.i 0 = search rules in
    let own = r.ensures.own b in
    let turned = at_by q m nets trits v.wide.now h.i c.unwrap_or.result r.result.port r.result.nets.now r.result.trits.now own r.ensures.nets.0 r.ensures.trits.0 wide (length h.scratch) (length v.scratch.now) c.part.result.now (going_of h.log h.self) (going_of p.new.log p.new.self) h.auto.scratch p.ensures.ports_after in
    let kept = at_kept q m nets trits v.wide.now h.i c.unwrap_or.result r.result.port r.result.nets.now r.result.trits.now own r.ensures.nets.0 r.ensures.trits.0 wide h.scratch p.new.scratch p.ensures.scratch_kept in
    record {
      in_range = omega (arith, h.invariant.in_range, r.type_inv);
      ports = ports_turn q (length v.scratch.now) xs v.wide.now v.output.now h.i h.at (going_of h.log h.self) _ h.invariant.ports (port_of m nets trits h.i) r.result.port.data_len (going_of p.new.log p.new.self) l x (ap (λ (y : MemoryReadPort). y.data_len) own) (turned ∙ ap (λ (o : List ℕ). port_if q (length v.scratch.now) h.i (port_of m nets trits h.i) (get_or v.wide.now h.i 0) o (going_of h.log h.self)) c.part.ensures.part);
      kept = kept_turn q xs v.wide.now h.i (port_of m nets trits h.i) v.scratch.now h.scratch p.new.scratch l x h.invariant.kept kept;
    }

pub returns : goal.returns
returns c =
    let v = c.args in
    let h = c.loop-i in
    let n = length_in v.given.memory v.given.nets.now v.given.trits.now (read_ports_length v.given.memory _ c.well_formed.1.1.1.1.0.1.1.0) in
    record {
      ports_after = ports_end (layout_of v.rows.layout) (length v.scratch.now) (in_ports v.given.memory v.given.nets.now v.given.trits.now) v.wide.now v.output.now h.i h.at (going_of h.log h.self) _ h.invariant.ports (omega (arith, n, c.ports_used-i-end.ensures.0, c.loop-i-test.false));
      all_kept = h.invariant.kept;
    }
