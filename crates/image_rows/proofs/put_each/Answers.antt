-- `image_rows::put_each` meets its contract.
use Prim.Native.Nat.{ℕ, ◌+◌, ◌-◌}
use mathlib.Core.Path.{◌≡◌, ap, ◌∙◌}
use native.Mathlib.Omega.{arith}
use lib.ListN.{get_or, take, drop}
use lib.Seq.{get_or-take, get_or-drop}
use lib.Dec.{eqb}
use Rattle.rules.specs.Limits.{None}
use Rattle.rules.specs.Image.{put}
use Rattle.image_rows.proofs.Runs.{each_turn}
use Rattle.image_rows.proofs.put_each.Goals as goal

pub loop-i-preserved : goal.loop-i-preserved
loop-i-preserved c =
    let a = c.args in
    let l = c.loop-i in
    let es = a.entries.now in
    let n : a.from + (l.i + 1) ≡ a.from + l.i + 1 = omega arith in
    let p : a.at + l.i ≡ a.at + (a.from + l.i - a.from) = omega arith in
    let e : get_or (take (a.to - a.from) (drop a.from es)) l.i 0 ≡ get_or es (a.from + l.i) 0 = get_or-take (a.to - a.from) (drop a.from es) l.i 0 (omega arith) ∙ get_or-drop a.from es l.i 0 in
    λ f w. rw n (each_turn f a.trits.now es a.at a.from a.to (a.from + l.i) _ l.image _ _ w (omega arith) (omega arith) c.requires.within p
    (c.put_trit.ensures ∙ ap (λ (x : ℕ). put (eqb x None) (a.at + l.i) (get_or a.trits.now x 0) l.image) e) (l.invariant f w))
