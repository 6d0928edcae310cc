-- `port_reset::reset_refusal` meets its contract.
use mathlib.Core.Path.{sym, ◌∙◌}
use native.Mathlib.Omega.{arith}
use Rattle.net_memory.proofs.Sized.{reads_length}
use Rattle.port_reset.proofs.Numbers.{num_14, num_15, num_0}
use Rattle.port_reset.proofs.reset_refusal.Goals as goal

pub returns-then-wanted_short : goal.returns-then-wanted_short
returns-then-wanted_short c =
    let v = c.args in
    num_14 v.next v.given.memory v.given.nets.now v.given.trits.now v.i v.incl v.output.now (sym c.in_ok-driving_refusal.ensures) (sym c.wanted_short.ensures ∙ c.if-wanted_short.true)

pub returns-then-ports_used-i : goal.returns-then-ports_used-i
returns-then-ports_used-i c =
    let v = c.args in
    num_15 v.next v.given.memory v.given.nets.now v.given.trits.now v.i v.incl v.output.now (sym c.in_ok-driving_refusal.ensures) (sym c.wanted_short.ensures ∙ c.if-wanted_short.false) (reads_length v.given.memory _ c.well_formed.0.1.1.0 v.given.nets.now v.given.trits.now) (omega arith)

pub returns : goal.returns
returns c =
    let v = c.args in
    num_0 v.next v.given.memory v.given.nets.now v.given.trits.now v.i v.incl v.output.now (sym c.in_ok-driving_refusal.ensures) (sym c.wanted_short.ensures ∙ c.if-wanted_short.false) (reads_length v.given.memory _ c.well_formed.0.1.1.0 v.given.nets.now v.given.trits.now) (omega arith)
