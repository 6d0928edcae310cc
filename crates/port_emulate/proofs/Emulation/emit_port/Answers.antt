-- `port_emulate::Emulation::emit_port` meets its contract.
use mathlib.Core.Path.{sym, ap, ◌∙◌}
use borrow.Author.Tests.{not-true, not-false}
use Rattle.lists.specs.Lists.{any}
use Rattle.net_memory.specs.Ports.{write_of}
use Rattle.port_relations.specs.Clocked.{has_relation, flip_flops_from}
use Rattle.log_entries.specs.View.{lent_of}
use Rattle.port_delay.specs.Delay.{cut}
use Rattle.port_emulate.proofs.Delays.{port_not, port_yes}
use mathlib.Core.Bool.{not}
use Rattle.port_emulate.proofs.Emulation.emit_port.Goals as goal

pub returns-then-not-relates_to : goal.returns-then-not-relates_to
returns-then-not-relates_to c =
    λ nets trits.
    let v = c.args in
    let p = write_of v.w in
    let l = lent_of v.log.now in
    port_not v.self.all_x p (cut p v.room.now.addr v.room.now.bits v.room.now.mask) v.room.now.addr v.room.now.bits v.room.now.mask l l _ (sym (c.relates_to.ensures nets trits ∙ (λ i. any (has_relation (c.from-before.ensures i) v.j) (flip_flops_from v.self.memory.now nets trits 0))) ∙ not-true _ (ap not c.if-not-relates_to.true))

pub returns : goal.returns
returns c =
    λ nets trits.
    let v = c.args in
    let p = write_of v.w in
    port_yes v.self.all_x p (cut p v.room.now.addr v.room.now.bits v.room.now.mask) c.emit_delayed.new.self.addr c.emit_delayed.new.self.bits c.emit_delayed.new.self.mask (lent_of v.log.now) (lent_of c.emit_delayed.new.log) _ (sym (c.relates_to.ensures nets trits ∙ (λ i. any (has_relation (c.from-before.ensures i) v.j) (flip_flops_from v.self.memory.now nets trits 0))) ∙ not-false _ (ap not c.if-not-relates_to.false)) c.emit_delayed.ensures
