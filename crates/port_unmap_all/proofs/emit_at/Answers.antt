-- `port_unmap_all::emit_at` meets its contract.
use mathlib.Core.Path.{sym, ap, ◌∙◌}
use Rattle.log_entries.specs.View.{lent_of}
use Rattle.net_memory.specs.Given.{mem_of}
use Rattle.net_memory.specs.declared.MemoryReadPort.{MemoryReadPort}
use Rattle.port_unmap.specs.Ready.{own_flip_flop}
use Rattle.port_unmap.proofs.Passed.{flip_none, flip_some}
use Rattle.port_unmap_all.proofs.Port.{at_none, at_some}
use Rattle.port_unmap_all.proofs.emit_at.Goals as goal

pub returns-in_default : goal.returns-in_default
returns-in_default c =
    let v = c.args in
    let e = ap (λ (p : MemoryReadPort). p.flip_flop) (sym (c.read_port.ensures.own c.requires)) ∙ c.in_default.is in
    at_none (mem_of v.given) v.i v.output.now v.after.now (lent_of v.log.now) (flip_none v.given.memory v.given.nets.now v.given.trits.now v.i c.requires e)

pub returns-in-Some : goal.returns-in-Some
returns-in-Some c =
    let v = c.args in
    let k = c.in-Some.controls in
    let u = c.emit_clocked in
    let e = ap (λ (p : MemoryReadPort). p.flip_flop) (sym (c.read_port.ensures.own c.requires)) ∙ c.in-Some.is in
    at_some (mem_of v.given) v.i v.output.now (own_flip_flop v.given.memory v.given.trits.now v.i k) v.after.now (lent_of v.log.now) (lent_of u.new.log) u.new.after (flip_some v.given.memory v.given.nets.now v.given.trits.now v.i c.requires k e) u.ensures
