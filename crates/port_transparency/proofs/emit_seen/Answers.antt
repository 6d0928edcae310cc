-- `port_transparency::emit_seen` meets its contract.
use mathlib.Core.Path.{◌≡◌, ◌∙◌}
use Prim.Native.Nat.{◌-◌, ◌≤◌}
use native.Mathlib.Omega.{arith}
use lib.ListN.{take}
use Rattle.log_entries.specs.View.{lent_of}
use Rattle.port_transparency.proofs.Seen.{select_is, case_wider, case_narrower, case_even}
use Rattle.port_transparency.proofs.Covered.{copied}
use Rattle.port_transparency.proofs.emit_seen.Goals as goal

pub seen_wider-requires : goal.seen_wider-requires
seen_wider-requires c =
    let f = c.requires in
    let u = f.up c.if-w-r.true in
    (u, omega (arith, f.masked, u), f.few, omega (arith, f.few), omega (arith, f.few), omega (arith, f.few))

pub returns-then-w-r : goal.returns-then-w-r
returns-then-w-r c =
    let v = c.args in
    let w = v.w in
    let r = v.r in
    let f = c.requires in
    let p = c.seen_wider in
    let e = c.narrower_select-select.ensures ∙ select_is w.k r.k w.addr.now r.addr.now f.enough_w f.enough_r in
    case_wider w.k r.k w.addr.now r.addr.now w.bits.now w.mask.now _ r.count (lent_of v.log.now) (lent_of p.new.log) (take r.count p.new.bits) (take r.count p.new.mask) c.if-w-r.true e (p.ensures (r.k - w.k) w.addr.now r.addr.now)

pub seen_narrower-requires : goal.seen_narrower-requires
seen_narrower-requires c =
    let f = c.requires in
    let u = f.down c.if-r-w.true in
    (u, f.masked, f.few_bits, omega (arith, f.few_bits), omega (arith, f.few_bits))

pub returns-then-r-w : goal.returns-then-r-w
returns-then-r-w c =
    let v = c.args in
    let w = v.w in
    let r = v.r in
    let f = c.requires in
    let p = c.seen_narrower in
    let e = c.narrower_select-select.ensures ∙ select_is w.k r.k w.addr.now r.addr.now f.enough_w f.enough_r in
    case_narrower w.k r.k w.addr.now r.addr.now w.bits.now w.mask.now _ r.count (lent_of v.log.now) (lent_of p.new.log) (take r.count p.new.bits) (take r.count p.new.mask) c.if-r-w.true e (p.ensures (w.k - r.k) w.addr.now r.addr.now)

pub returns : goal.returns
returns c =
    let v = c.args in
    let w = v.w in
    let r = v.r in
    let f = c.requires in
    let a : r.k ≤ w.k = c.if-w-r.false in
    let b : w.k ≤ r.k = c.if-r-w.false in
    let k : w.k ≡ r.k = omega arith in
    let s = f.even k in
    case_even w.k r.k w.addr.now r.addr.now w.bits.now w.mask.now r.count (lent_of v.log.now) _ _ b a
    (copied v.bits.now c.copy.new.to w.bits.now r.count c.copy.ensures s (omega (arith, f.few)))
    (copied v.mask.now c.copy-2.new.to w.mask.now r.count c.copy-2.ensures (f.masked ∙ s) (omega (arith, f.few)))
