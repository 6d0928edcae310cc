-- `record_reader::put_groups` meets its contract.
use Rattle.std.proofs.Common.{ℕ, ◌≡◌, ◌-◌, ◌*◌, arith, length, refl, sym, ap, ◌∙◌}
use lib.Seq.{sets}
use Rattle.record_bits.specs.Groups.{group_trits}
use mathlib.Core.Logic.{⊎_elim}
use Rattle.record_reader.proofs.Arrays.{left, left_start, left_turn, left_none}
use Rattle.record_reader.proofs.put_groups.Goals as goal

pub loop-j-init : goal.loop-j-init
loop-j-init c =
    let it = c.into_iter-j-iterator.result in
    let p : it.iter.a.rest.now ≡ c.args.ks.now = cc in
    let q : it.iter.b.rest.now ≡ c.args.vs.now = cc in
    let n : it.count ≡ 0 = cc in
    (refl, ap length p ∙ c.requires.0 ∙ sym (ap length q), omega (arith, n, ap length p, c.requires.1), left_start c.args.image.now c.args.count it.count c.args.ks.now c.args.vs.now _ _ n p q)

pub loop-j-preserved : goal.loop-j-preserved
loop-j-preserved c =
    let l = c.loop-j in
    let s = c.in-Some.ensures.steps in
    let p = s.0.0 in
    let q = s.0.1 in
    let j = s.1 in
    let n = s.2 in
    let i = l.j-iterator.count in
    let k = c.in-Some.known.now in
    let v = c.in-Some.value.now in
    let t = c.saturating_sub.result in
    let b : t ≡ c.args.count - 8 * i = c.saturating_sub.ensures ∙ ap (λ (x : ℕ). c.args.count - 8 * x) j in
    let e : c.spread.new.image ≡ sets l.image (8 * i) (group_trits t k v) = c.spread.ensures ∙ ap (λ (x : ℕ). sets l.image (8 * x) (group_trits t k v)) j in (
      c.spread.auto.image ∙ l.invariant.0,
      omega (arith, ap length p, ap length q, l.invariant.1),
      omega (arith, ap length p, n, l.invariant.2),
      ap (λ (m : ℕ). left c.spread.new.image c.args.count m c.next.new.self.iter.a.rest.now c.next.new.self.iter.b.rest.now) n ∙ left_turn l.image c.spread.new.image c.args.count i t k v _ _ _ _ b p q e ∙ l.invariant.3,
    )

pub shape_of-image : goal.shape_of-image
shape_of-image c = c.loop-j.invariant.0

pub returns : goal.returns
returns c =
    let l = c.loop-j in
    let none : length l.j-iterator.iter.a.rest.now ≡ 0 = ⊎_elim (λ h. h.1.0) (λ h. l.invariant.1 ∙ h.1.0) c.in-None.ensures.steps.0 in
    left_none l.image c.args.count l.j-iterator.count _ _ none ∙ l.invariant.3
