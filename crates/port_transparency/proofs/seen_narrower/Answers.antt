-- `port_transparency::seen_narrower` meets its contract.
use lib.ListN.{length, take}
use Rattle.log_entries.specs.View.{lent_of}
use Rattle.rules.specs.Log.{add_ushr_of}
use Rattle.port_transparency.specs.Gave.{Gave}
use Rattle.port_transparency.proofs.Seen.{gave_narrower, narrower_as}
use Rattle.port_transparency.proofs.seen_narrower.Goals as goal

pub returns : goal.returns
returns c =
    let v = c.args in
    let p = c.ushr_into in
    let q = c.ushr_into-2 in
    let l = lent_of v.log.now in
    let l1 = lent_of p.new.log in
    let l2 = lent_of q.new.log in
    let k = length v.w.bits.now in
    let x = p.new.out in
    let y = q.new.out in
    let h : Gave (add_ushr_of v.n v.select.now v.w.mask.now) l1 l2 (take k y) = rw c.requires.1 at q.ensures in
    λ d a b. narrower_as v.select.now v.w.bits.now v.w.mask.now a b d v.n k l l2 x y c.requires.0 (gave_narrower v.select.now v.w.bits.now v.w.mask.now a b d v.n l l1 l2 (take k x) (take k y) p.ensures h)
