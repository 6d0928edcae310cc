-- `port_extract::clocked_trits` meets its contract.
use Rattle.port_extract.proofs.View.{kept_with}
use Rattle.port_extract.proofs.clocked_trits.Goals as goal

pub returns-in-Some : goal.returns-in-Some
returns-in-Some c =
    let g = c.args.given.now in
    let r = c.read_port-r in
    let t = r.ensures.trits in
    (kept_with g.memory g.trits.now c.args.i r.result.port r.ensures.own c.in-Some.field-0 r.result.trits.now c.in-Some.is t.0, t.1)
