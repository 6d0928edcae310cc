-- `port_mux::Pair::ports_refusal` meets its contract.
use mathlib.Core.Path.{sym, ◌∙◌}
use native.Mathlib.Omega.{arith}
use Prim.Native.Nat.{◌<◌, min}
use Rattle.rules.specs.Limits.{max_ports}
use Rattle.rules.specs.Cell.{read_at_of}
use Rattle.net_memory.specs.Given.{mem_of}
use Rattle.net_memory.proofs.Sized.{reads_length, writes_length}
use Rattle.port_overlay.proofs.Laid.{width_is}
use Rattle.port_mux.proofs.Numbers.{no_read, no_write, pair_14, pair_0}
use Rattle.port_mux.proofs.Pair.ports_refusal.Goals as goal

pub returns-then-ports_used-self : goal.returns-then-ports_used-self
returns-then-ports_used-self c =
    let v = c.args in
    let g = v.self.given in
    no_read g.memory g.nets.now g.trits.now v.self.i (reads_length g.memory _ c.well_formed.0.1.1.0.1.1.0 g.nets.now g.trits.now) v.self.j (writes_length g.memory _ c.well_formed.0.1.1.0.1.1.0 g.nets.now) (omega (arith, c.if-ports_used-self.true, c.ports_used.ensures.0))

pub returns-then-ports_used-self-2 : goal.returns-then-ports_used-self-2
returns-then-ports_used-self-2 c =
    let v = c.args in
    let g = v.self.given in
    no_write g.memory g.nets.now g.trits.now v.self.i (reads_length g.memory _ c.well_formed.0.1.1.0.1.1.0 g.nets.now g.trits.now) v.self.j (writes_length g.memory _ c.well_formed.0.1.1.0.1.1.0 g.nets.now) (omega (arith, c.if-ports_used-self.false, c.ports_used.ensures.0)) (omega (arith, c.if-ports_used-self-2.true, c.ports_used-2.ensures.0))

pub returns-then-pair_short : goal.returns-then-pair_short
returns-then-pair_short c =
    let v = c.args in
    let g = v.self.given in
    let h : v.self.i < min max_ports g.memory.read_count = omega (arith, c.if-ports_used-self.false, c.ports_used.ensures.0) in
    let k : v.self.j < min max_ports g.memory.write_count = omega (arith, c.if-ports_used-self-2.false, c.ports_used-2.ensures.0) in
    let r = read_at_of (mem_of g) v.self.i in
    pair_14 g.memory g.nets.now g.trits.now v.self.i (reads_length g.memory _ c.well_formed.0.1.1.0.1.1.0 g.nets.now g.trits.now) v.self.j (writes_length g.memory _ c.well_formed.0.1.1.0.1.1.0 g.nets.now) h k
    (sym c.if-pair_short.true ∙ c.pair_short.ensures g.trits.now r (c.reading-r.ensures (mem_of g) r (width_is g.memory g.nets.now g.trits.now) c.read_port.ensures.port).0)

pub returns : goal.returns
returns c =
    let v = c.args in
    let g = v.self.given in
    let h : v.self.i < min max_ports g.memory.read_count = omega (arith, c.if-ports_used-self.false, c.ports_used.ensures.0) in
    let k : v.self.j < min max_ports g.memory.write_count = omega (arith, c.if-ports_used-self-2.false, c.ports_used-2.ensures.0) in
    let r = read_at_of (mem_of g) v.self.i in
    pair_0 g.memory g.nets.now g.trits.now v.self.i (reads_length g.memory _ c.well_formed.0.1.1.0.1.1.0 g.nets.now g.trits.now) v.self.j (writes_length g.memory _ c.well_formed.0.1.1.0.1.1.0 g.nets.now) h k
    (sym c.if-pair_short.false ∙ c.pair_short.ensures g.trits.now r (c.reading-r.ensures (mem_of g) r (width_is g.memory g.nets.now g.trits.now) c.read_port.ensures.port).0)
