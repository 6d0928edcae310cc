-- `port_unmap::parts_of` meets its contract.
use Rattle.rules.specs.Cell.{read_at_of}
use Rattle.net_memory.specs.Given.{mem_of}
use Rattle.port_unmap.proofs.Emitted.{width_of, slice_from}
use Rattle.port_unmap.proofs.parts_of.Goals as goal

pub returns-clause-reading : goal.returns-clause-reading
returns-clause-reading c =
    let v = c.args in
    let g = v.given in
    λ e.
    let r = c.reading-reading.ensures (mem_of g) (read_at_of (mem_of g) v.i) (width_of g.memory g.nets.now g.trits.now) e in
    (r.0.0, r.0.1, r.1, slice_from (mem_of g) v.i _ _ v.output.now _ (c.output_start-start.ensures.by_index g.nets.now g.trits.now) r.1 c.part.ensures.part)
