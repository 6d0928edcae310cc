-- `port_unmap::unmap_refusal` meets its contract.
use mathlib.Core.Path.{sym, ◌∙◌}
use native.Mathlib.Omega.{arith}
use Rattle.net_memory.proofs.Sized.{reads_length}
use Rattle.port_unmap.proofs.Short.{num_14, num_15, num_0}
use Rattle.port_unmap.proofs.unmap_refusal.Goals as goal

pub returns-then-port_short : goal.returns-then-port_short
returns-then-port_short c =
    let v = c.args in
    num_14 v.next v.given.memory v.given.nets.now v.given.trits.now v.i v.output.now (sym c.in_ok-driving_refusal.ensures) (sym (c.port_short.ensures v.given.trits.now) ∙ c.if-port_short.true)

pub returns-then-ports_used-i : goal.returns-then-ports_used-i
returns-then-ports_used-i c =
    let v = c.args in
    num_15 v.next v.given.memory v.given.nets.now v.given.trits.now v.i v.output.now (sym c.in_ok-driving_refusal.ensures) (sym (c.port_short.ensures v.given.trits.now) ∙ c.if-port_short.false) (reads_length v.given.memory _ c.well_formed.0.1.1.0 v.given.nets.now v.given.trits.now) (omega arith)

pub returns : goal.returns
returns c =
    let v = c.args in
    num_0 v.next v.given.memory v.given.nets.now v.given.trits.now v.i v.output.now (sym c.in_ok-driving_refusal.ensures) (sym (c.port_short.ensures v.given.trits.now) ∙ c.if-port_short.false) (reads_length v.given.memory _ c.well_formed.0.1.1.0 v.given.nets.now v.given.trits.now) (omega arith)
