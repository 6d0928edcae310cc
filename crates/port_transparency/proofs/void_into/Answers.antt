-- `port_transparency::void_into` meets its contract.
use Rattle.log_entries.specs.View.{lent_of}
use Rattle.port_transparency.proofs.Gave.{void_fresh}
use Rattle.port_transparency.proofs.void_into.Goals as goal

pub returns : goal.returns
returns c =
    let v = c.args in
    let p = c.emit_void in
    λ h. void_fresh v.n (lent_of v.log.now) (lent_of p.new.self) v.out.now c.store_run.new.to p.ensures c.store_run.ensures h
