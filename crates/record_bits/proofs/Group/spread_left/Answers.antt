-- `record_bits::Group::spread_left` meets its contract.
use Rattle.record_bits.proofs.Groups.{trits_left, trits_turn, trits_end}
use Rattle.record_bits.specs.Groups.{group_trits}
use Rattle.lists.proofs.Store.{sets_out}
use mathlib.Core.Path.{◌≡◌, refl, sym, ap, ◌∙◌}
use Prim.Native.Nat.{ℕ, ◌+◌, ◌-◌, ◌/◌}
use native.Mathlib.Omega.{arith}
use mathlib.Core.List.{List}
use lib.Seq.{sets}
use Rattle.record_bits.proofs.Group.spread_left.Goals as goal

pub returns-then-image-at : goal.returns-then-image-at
returns-then-image-at c =
    let a = c.args in
    sym (sets_out (group_trits a.count a.self.known a.self.value) a.image.now a.at c.if-image-at.true)

pub loop-i-init : goal.loop-i-init
unfolding group_trits
loop-i-init c =
    let a = c.args in
    let x : a.at + 0 ≡ a.at = omega arith in
    let y : a.count - 0 ≡ a.count = omega arith in
    (refl, rw (x, y))

pub loop-i-preserved : goal.loop-i-preserved
loop-i-preserved c =
    let p = c in
    let l = p.loop-i in
    let a = p.args in
    let e = trits_turn l.image a.at a.count l.known l.value l.i p.trit_by.result (omega arith) p.trit_by.ensures in
    (p.put.auto.to ∙ l.invariant.0, ap (λ (m : List ℕ). sets m (a.at + (l.i + 1)) (trits_left a.count (l.known / 2) (l.value / 2) (l.i + 1))) p.put.ensures ∙ e ∙ l.invariant.1)

pub shape_of-image : goal.shape_of-image
shape_of-image c = c.loop-i.invariant.0

pub returns : goal.returns
returns c =
    let l = c.loop-i in
    let a = c.args in
    sym (trits_end l.image (a.at + l.i) a.count l.known l.value l.i (omega arith)) ∙ l.invariant.1
