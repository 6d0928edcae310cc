-- `port_mux::Pair::unlike` meets its contract.
use mathlib.Core.Path.{ap}
use native.Mathlib.Omega.{arith}
use Prim.Native.Nat.{◌<◌, min}
use mathlib.Core.Bool.{not}
use lib.ListN.{length}
use lib.Dec.{eqb}
use Rattle.std.proofs.Common.{rules, tests}
use Rattle.rules.specs.Limits.{max_ports}
use Rattle.net_memory.specs.declared.MemoryReadPort.{MemoryReadPort}
use Rattle.net_memory.proofs.Sized.{reads_length}
use Rattle.port_mux.specs.Call.{asked_of}
use Rattle.port_mux.proofs.Numbers.{unlike_none, unlike_there}
use Rattle.port_mux.proofs.Pair.unlike.Goals as goal

pub returns-then-ports_used-self : goal.returns-then-ports_used-self
returns-then-ports_used-self c =
    let v = c.args in
    let g = v.self.given in
    unlike_none g.memory g.nets.now g.trits.now v.self.i (reads_length g.memory _ c.well_formed.0.1.1.0.1.1.0 g.nets.now g.trits.now) (asked_of v.self.asked) (omega (arith, c.if-ports_used-self.true, c.ports_used.ensures.0))

pub returns : goal.returns
returns c =
    let v = c.args in
    let g = v.self.given in
    let h : v.self.i < min max_ports g.memory.read_count = omega (arith, c.if-ports_used-self.false, c.ports_used.ensures.0) in
    let n = c.read_port.result.port.data_len in
    let e = ap (λ (p : MemoryReadPort). p.data_len) (c.read_port.ensures.own h) in
    unlike_there g.memory g.nets.now g.trits.now v.self.i (reads_length g.memory _ c.well_formed.0.1.1.0.1.1.0 g.nets.now g.trits.now) (asked_of v.self.asked) _ n h e (c.any.ensures (λ x. not (eqb (length x) n)) (λ x r q. search (rules, tests)))
