-- `port_overlay::emit_pair` meets its contract.
use lib.ListN.{take}
use Rattle.log_entries.specs.View.{lent_of}
use Rattle.net_memory.specs.View.{memory_of}
use Rattle.port_transparency.specs.Pairs.{write_of, read_of, data_and}
use Rattle.port_overlay.proofs.Laid.{pair_by}
use Rattle.port_overlay.proofs.emit_pair.Goals as goal

pub returns : goal.returns
returns g c =
    let v = c.args in
    let w = c.writing in
    let p = c.emit_transparency in
    let n = v.r.count in
    let k = g.O.Over.mask in
    λ trits. pair_by (memory_of v.given.memory v.given.nets.now trits) w.result.k v.r.k v.j (write_of w.result) (read_of v.r) (data_and (take n v.overlay.now.under) (k v.over.now n)) (data_and (take n p.new.self.under) (k p.new.over n))
    (lent_of v.log.now) (lent_of p.new.log) (w.ensures.k_value trits) (w.ensures.port trits) p.ensures
