-- `port_transparency::Overlay::emit_laid` meets its contract.
use Prim.Native.Nat.{◌-◌}
use lib.ListN.{take}
use Rattle.log_entries.specs.View.{lent_of}
use Rattle.port_transparency.proofs.Covered.{laid_all, rest_short}
use Rattle.port_transparency.proofs.Overlay.emit_laid.Goals as goal

pub emit_same-requires : goal.emit_same-requires
emit_same-requires c =
    let w = c.args.w in
    let r = c.args.r in
    let f = c.requires in
    (rest_short _ w.addr.now (r.k - w.k) 4096 c.addr_rest-wrest.ensures f.short_w, rest_short _ r.addr.now (w.k - r.k) 4096 c.addr_rest-rrest.ensures f.short_r)

pub emit_covered-requires : goal.emit_covered-requires
emit_covered-requires c = c.requires.few

pub returns : goal.returns
returns c =
    let v = c.args in
    let w = v.w in
    let r = v.r in
    let p = c.emit_seen in
    let q = c.emit_same in
    let k = c.emit_covered in
    let n = r.count in
    rw k.ensures.mask_stays
    (laid_all w.k r.k n w.addr.now r.addr.now w.bits.now w.mask.now _ _ (take n p.new.bits) (take n p.new.mask) (take n v.self.now.under) (take n k.new.self.under)
    (lent_of v.log.now) (lent_of p.new.log) (lent_of q.new.log) (lent_of k.new.log) p.new.log.state.next
    c.addr_rest-wrest.ensures c.addr_rest-rrest.ensures p.ensures q.ensures k.ensures.data_after)
