-- `port_overlay::emit_pairs` meets its contract.
use native.Mathlib.Omega.{arith}
use lib.ListN.{take}
use Rattle.log_entries.specs.View.{lent_of}
use Rattle.net_memory.specs.View.{memory_of}
use Rattle.port_transparency.specs.Pairs.{read_of, data_and}
use Rattle.port_overlay.proofs.Laid.{going_turn, going_end}
use Rattle.port_overlay.proofs.emit_pairs.Goals as goal

pub loop-j-init : goal.loop-j-init
loop-j-init g c = λ trits l v h. h

pub loop-j-preserved : goal.loop-j-preserved
loop-j-preserved g c =
    let v = c.args in
    let h = c.loop-j in
    let p = c.emit_related in
    let n = v.r.count in
    let k = g.O.Over.mask in
    λ trits. going_turn (memory_of v.given.memory v.given.nets.now trits) v.r.k (read_of v.r) v.rels.now (data_and (take n v.overlay.now.under) (k v.over.now n)) (lent_of v.log.now) h.j (data_and (take n h.overlay.under) (k h.over n)) (data_and (take n p.new.overlay.under) (k p.new.over n)) (lent_of h.log) (lent_of p.new.log) (omega arith) (h.invariant trits) (p.ensures trits)

pub returns : goal.returns
returns g c =
    let v = c.args in
    let h = c.loop-j in
    let n = v.r.count in
    let k = g.O.Over.mask in
    λ trits. going_end (memory_of v.given.memory v.given.nets.now trits) v.r.k (read_of v.r) v.rels.now (data_and (take n v.overlay.now.under) (k v.over.now n)) (lent_of v.log.now) h.j (data_and (take n h.overlay.under) (k h.over n)) (lent_of h.log) (omega arith) (h.invariant trits)
