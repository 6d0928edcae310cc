-- `port_transparency::dff_into` meets its contract.
use Rattle.net_flip_flop.specs.View.{flip_flop_of}
use Rattle.log_entries.specs.View.{lent_of}
use Rattle.port_transparency.proofs.Gave.{dff_fresh}
use Rattle.port_transparency.proofs.dff_into.Goals as goal

pub returns : goal.returns
returns c =
    let v = c.args in
    let p = c.emit_dff in
    λ h. dff_fresh (flip_flop_of v.f) (lent_of v.log.now) (lent_of p.new.self) v.out.now c.store_run.new.to p.ensures c.store_run.ensures h
