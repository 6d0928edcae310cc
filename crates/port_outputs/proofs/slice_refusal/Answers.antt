-- `port_outputs::slice_refusal` meets its contract.
use mathlib.Core.Path.{sym}
use native.Mathlib.Omega.{arith}
use Rattle.net_memory.proofs.Sized.{reads_length}
use Rattle.port_outputs.proofs.Outputs.{port_out, port_in}
use Rattle.port_outputs.proofs.slice_refusal.Goals as goal

pub returns-then-ports_used-port : goal.returns-then-ports_used-port
returns-then-ports_used-port c =
    let v = c.args in
    port_out v.given.memory v.given.nets.now v.given.trits.now v.port (reads_length v.given.memory _ c.well_formed.0.1.1.0 v.given.nets.now v.given.trits.now) (sym c.in_ok-memory_refusal.ensures) (omega arith)

pub returns : goal.returns
returns c =
    let v = c.args in
    port_in v.given.memory v.given.nets.now v.given.trits.now v.port (reads_length v.given.memory _ c.well_formed.0.1.1.0 v.given.nets.now v.given.trits.now) (sym c.in_ok-memory_refusal.ensures) (omega arith)
