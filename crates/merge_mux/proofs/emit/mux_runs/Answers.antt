-- `merge_mux::emit::mux_runs` meets its contract.
use mathlib.Core.Path.{◌≡◌, refl, ◌∙◌}
use Prim.Native.Nat.{◌+◌, ◌-◌, ◌<◌, ◌≤◌}
use native.Mathlib.Omega.{arith}
use lib.ListN.{length, drop, length-take}
use Rattle.lists.specs.Lists.{part}
use Rattle.rules.specs.Limits.{max_merge}
use Rattle.merge_mux.proofs.Limited.{limited-all}
use Rattle.merge_mux.proofs.Bitwise.{going_starts, turn, going_ends, nets_end}
use Rattle.merge_mux.specs.Runs.{run_at}
use Rattle.log_entries.specs.View.{lent_of}
use Rattle.merge_mux.proofs.emit.mux_runs.Goals as goal

pub loop-i-init : goal.loop-i-init
loop-i-init c =
    let v = c.args in
    (refl, going_starts v.s.now v.a.now v.b.now v.nets.now (lent_of v.log.now))

pub loop-i-smaller : goal.loop-i-smaller
loop-i-smaller c =
    let v = c.args in
    let g = c.loop-i.invariant in
    let r = c.run_end-e.ensures in
    let t : c.loop-i.i < length v.s.now = c.loop-i-test.true in
    omega arith

pub loop-i-preserved : goal.loop-i-preserved
loop-i-preserved c =
    let v = c.args in
    let l = c.loop-i in
    let g = l.invariant in
    let r = c.run_end-e in
    let t : l.i < length v.s.now = c.loop-i-test.true in
    let w = c.requires in
    let p = c.emit_dedup_mux in
    let e = r.result in
    let q : e - l.i ≡ run_at (drop l.i v.s.now) = omega (arith, r.ensures.value) in
    let z : l.i + (e - l.i) ≡ e = omega (arith, r.ensures.lower_bound) in
    let short : e - l.i ≤ max_merge = omega (arith, r.ensures.lower_bound, w.few) in
    let ea = limited-all (part l.i (e - l.i) v.a.now) (omega (arith, short, length-take (e - l.i) (drop l.i v.a.now))) in
    let eb = limited-all (part l.i (e - l.i) v.b.now) (omega (arith, short, length-take (e - l.i) (drop l.i v.b.now))) in
    let n = turn v.s.now v.a.now v.b.now v.nets.now l.nets p.new.out (lent_of v.log.now) (lent_of l.log) (lent_of p.new.log) l.i (e - l.i) g.1 t q
    (omega (arith, r.ensures.lower_bound)) (omega (arith, r.ensures.lower_bound, w.first)) (omega (arith, r.ensures.lower_bound, w.second)) (rw (ea, eb) at p.ensures.log_after) (rw (ea, eb) at p.ensures.out_after) in
    (p.auto.out ∙ g.0, rw z at n)

pub shape_of-nets : goal.shape_of-nets
shape_of-nets c = c.loop-i.invariant.0

pub returns : goal.returns
returns c =
    let v = c.args in
    let l = c.loop-i in
    record { log_after = going_ends v.s.now v.a.now v.b.now v.nets.now l.nets (lent_of v.log.now) (lent_of l.log) l.i l.invariant.1 c.loop-i-test.false; nets_after = nets_end v.s.now v.a.now v.b.now v.nets.now l.nets (lent_of v.log.now) (lent_of l.log) l.i l.invariant.1 c.loop-i-test.false }
