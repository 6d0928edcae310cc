-- `port_overlay::emit_related` meets its contract.
use lib.ListN.{take}
use Rattle.log_entries.specs.View.{lent_of}
use Rattle.net_memory.specs.View.{memory_of}
use Rattle.port_transparency.specs.Pairs.{read_of, data_and}
use Rattle.port_overlay.proofs.Laid.{as_laid, as_not, is_not, is_yes}
use Rattle.port_overlay.proofs.emit_related.Goals as goal

pub returns-then-x-from : goal.returns-then-x-from
returns-then-x-from g c =
    let v = c.args in
    let n = v.r.count in
    λ trits. as_not (memory_of v.given.memory v.given.nets.now trits) v.r.k (read_of v.r) v.x v.j (data_and (take n v.overlay.now.under) (g.O.Over.mask v.over.now n)) (lent_of v.log.now) (is_not v.x (rw c.from.ensures at c.if-x-from.true))

pub returns : goal.returns
returns g c =
    let v = c.args in
    let p = c.emit_pair in
    let n = v.r.count in
    let k = g.O.Over.mask in
    λ trits. as_laid (memory_of v.given.memory v.given.nets.now trits) v.r.k (read_of v.r) v.x v.j (data_and (take n v.overlay.now.under) (k v.over.now n)) (lent_of v.log.now) (is_yes v.x (rw c.from.ensures at c.if-x-from.false)) (lent_of p.new.log) (data_and (take n p.new.overlay.under) (k p.new.over n)) (p.ensures trits)
