-- `port_unmap::port_short` meets its contract.
use mathlib.Core.Path.{refl, sym, ◌∙◌}
use Rattle.rules.specs.Cell.{read_at_of}
use Rattle.net_memory.specs.Given.{mem_of}
use Rattle.port_unmap.proofs.Emitted.{width_of}
use Rattle.port_unmap.proofs.Short.{at_none, at_some, port_any}
use Rattle.port_unmap.proofs.port_short.Goals as goal

pub returns-then-is_some : goal.returns-then-is_some
returns-then-is_some c =
    let g = c.args.given in
    let o = c.read_port-own in
    let r = read_at_of (mem_of g) c.args.i in
    let k = c.reading.ensures (mem_of g) r (width_of g.memory g.nets.now g.trits.now) o.ensures.port in
    λ trits.
    at_some (mem_of g) r o.result.port o.result.nets.now o.result.trits.now _ o.ensures.port c.relations.ensures _ (sym c.is_some.ensures ∙ c.if-is_some.true) (c.pairs_short.ensures g.trits.now r k.0)
    ∙ port_any g.memory g.nets.now g.trits.now trits c.args.i

pub returns-else-is_some : goal.returns-else-is_some
returns-else-is_some c =
    let g = c.args.given in
    let o = c.read_port-own in
    λ trits.
    c.if-is_some.false ∙ at_none (mem_of g) (read_at_of (mem_of g) c.args.i) o.result.port o.result.nets.now o.result.trits.now _ o.ensures.port refl (sym c.is_some.ensures ∙ c.if-is_some.false)
    ∙ port_any g.memory g.nets.now g.trits.now trits c.args.i
