-- `port_transparency::seen_wider` meets its contract.
use lib.ListN.{take}
use Rattle.log_entries.specs.View.{lent_of}
use Rattle.port_transparency.proofs.Seen.{gave_wider}
use Rattle.port_transparency.proofs.seen_wider.Goals as goal

pub returns : goal.returns
returns c =
    let v = c.args in
    let p = c.shl_into in
    let q = c.shl_into-2 in
    λ d a b. gave_wider v.select.now v.w.bits.now v.w.mask.now a b d v.n (lent_of v.log.now) (lent_of p.new.log) (lent_of q.new.log) (take v.n p.new.out) (take v.n q.new.out) p.ensures q.ensures
