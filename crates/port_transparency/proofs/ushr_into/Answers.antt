-- `port_transparency::ushr_into` meets its contract.
use Rattle.log_entries.specs.View.{lent_of}
use Rattle.port_transparency.proofs.Seen.{ushr_fresh}
use Rattle.port_transparency.proofs.ushr_into.Goals as goal

pub returns : goal.returns
returns c =
    let v = c.args in
    let p = c.emit_ushr in
    ushr_fresh v.n v.select.now v.v.now (lent_of v.log.now) (lent_of p.new.self) v.out.now c.store_run.new.to p.ensures c.store_run.ensures c.requires.2
