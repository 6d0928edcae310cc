-- `port_delay::Room::emit_delayed` meets its contract.
use mathlib.Core.Path.{refl, sym, ap, ◌∙◌}
use borrow.Author.Tests.{not-true, not-false}
use Rattle.net_value.specs.View.{control_of}
use Rattle.net_memory.specs.Ports.{write_of}
use Rattle.log_entries.specs.View.{lent_of}
use Rattle.port_delay.specs.Delay.{cut}
use Rattle.port_delay.proofs.Delay.{can_fit, delayed_not, delayed_yes}
use mathlib.Core.Bool.{not}
use Rattle.port_delay.proofs.Room.emit_delayed.Goals as goal

pub returns-then-not-can_delay : goal.returns-then-not-can_delay
returns-then-not-can_delay c =
    let v = c.args in
    let p = write_of v.w in
    let l = lent_of v.log.now in
    delayed_not v.all_x p c.addr.result.now c.bits.result.now c.mask.result.now (control_of v.w.port.clock) c.addr.ensures c.bits.ensures.0 c.mask.ensures refl l l (cut p v.self.now.addr v.self.now.bits v.self.now.mask) (sym c.can_delay.ensures ∙ not-true _ (ap not c.if-not-can_delay.true))

pub emit_three-requires : goal.emit_three-requires
emit_three-requires c =
    let v = c.args in
    let l = lent_of v.log.now in
    can_fit v.all_x (write_of v.w) c.addr.result.now c.bits.result.now c.mask.result.now (control_of v.w.port.clock) c.addr.ensures c.bits.ensures.0 c.mask.ensures refl l l (sym c.can_delay.ensures ∙ not-false _ (ap not c.if-not-can_delay.false))

pub returns : goal.returns
returns c =
    let v = c.args in
    let p = write_of v.w in
    delayed_yes v.all_x p c.addr.result.now c.bits.result.now c.mask.result.now (control_of v.w.port.clock) c.addr.ensures c.bits.ensures.0 c.mask.ensures refl (lent_of v.log.now) (lent_of c.emit_three.new.log) (cut p v.self.now.addr v.self.now.bits v.self.now.mask) _ (sym c.can_delay.ensures ∙ not-false _ (ap not c.if-not-can_delay.false)) c.emit_three.ensures
