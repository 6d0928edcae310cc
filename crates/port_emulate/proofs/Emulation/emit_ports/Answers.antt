-- `port_emulate::Emulation::emit_ports` meets its contract.
use mathlib.Core.Path.{refl, sym, ◌∙◌}
use Prim.Native.Nat.{◌<◌, min}
use native.Mathlib.Omega.{arith}
use mathlib.Core.List.{[]}
use Rattle.rules.specs.Limits.{max_ports}
use Rattle.log_entries.specs.View.{lent_of}
use Rattle.net_memory.specs.View.{writes_of}
use Rattle.net_memory.specs.Ports.{write_of}
use Rattle.net_memory.proofs.Ports.{write_of_view}
use Rattle.port_emulate.proofs.Bounds.{writes_by}
use Rattle.port_settle.specs.Settled.{is_read}
use Rattle.port_emulate.proofs.Delays.{turn, ends}
use Rattle.port_emulate.proofs.Emulation.emit_ports.Goals as goal

pub loop-j-init : goal.loop-j-init
loop-j-init c = λ x y. refl

pub loop-j-preserved : goal.loop-j-preserved
loop-j-preserved c =
    let v = c.args in
    let m = v.self.memory.now in
    let h = c.loop-j in
    let p = c.emit_port in
    let n = writes_by m v.self.eight v.nets.now in
    let i : h.j < min max_ports m.write_count = omega (arith, c.ports_used-j-end.ensures.0) in
    let e = c.write_port.ensures.port ∙ write_of_view m v.nets.now [] h.j in
    λ x y. turn (is_read m x y) v.self.all_x (writes_of m v.nets.now) h.j (omega (arith, n, i)) c.requires (write_of c.write_port.result) _ _ e (lent_of h.log) (lent_of p.new.log) (p.ensures x y) ∙ h.invariant x y

pub returns : goal.returns
returns c =
    let v = c.args in
    let m = v.self.memory.now in
    let h = c.loop-j in
    let n = writes_by m v.self.eight v.nets.now in
    λ x y. sym (ends (is_read m x y) v.self.all_x (writes_of m v.nets.now) h.j (lent_of h.log) (omega (arith, n, c.ports_used-j-end.ensures.0))) ∙ h.invariant x y
