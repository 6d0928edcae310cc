-- `record_codec::bad_arrays` meets its contract.
use Rattle.std.proofs.Common.{ℕ, ◌≡◌, ◌-◌, ◌*◌, arith, length, refl, sym, ap, ◌∙◌}
use mathlib.Core.Logic.{⊎_elim}
use Rattle.lists.proofs.Choice.{or_stop, or_skip}
use Rattle.record_codec.proofs.Arrays.{left, left_start, left_turn, left_none}
use Rattle.record_codec.proofs.bad_arrays.Goals as goal

pub loop-j-init : goal.loop-j-init
loop-j-init c =
    let it = c.into_iter-j-iterator.result in
    let p : it.iter.a.rest.now ≡ c.args.ks.now = cc in
    let q : it.iter.b.rest.now ≡ c.args.vs.now = cc in
    let n : it.count ≡ 0 = cc in
    (ap length p ∙ c.requires.0 ∙ sym (ap length q), omega (arith, n, ap length p, c.requires.1), left_start c.args.count it.count c.args.ks.now c.args.vs.now _ _ n p q)

pub returns-then-is_bad : goal.returns-then-is_bad
returns-then-is_bad c =
    let l = c.loop-j in
    let s = c.in-Some.ensures.steps in
    let i = l.j-iterator.count in
    let b : c.saturating_sub.result ≡ c.args.count - 8 * i = c.saturating_sub.ensures ∙ ap (λ (x : ℕ). c.args.count - 8 * x) s.1 in
    or_stop _ (sym c.is_bad.ensures ∙ c.if-is_bad.true) ∙ sym (left_turn c.args.count i _ _ _ _ _ _ _ b s.0.0 s.0.1) ∙ l.invariant.2

pub loop-j-preserved : goal.loop-j-preserved
loop-j-preserved c =
    let l = c.loop-j in
    let s = c.in-Some.ensures.steps in
    let i = l.j-iterator.count in
    let b : c.saturating_sub.result ≡ c.args.count - 8 * i = c.saturating_sub.ensures ∙ ap (λ (x : ℕ). c.args.count - 8 * x) s.1 in (
      omega (arith, ap length s.0.0, ap length s.0.1, l.invariant.0),
      omega (arith, ap length s.0.0, s.2, l.invariant.1),
      ap (λ (m : ℕ). left c.args.count m c.next.new.self.iter.a.rest.now c.next.new.self.iter.b.rest.now) s.2
          ∙ or_skip (sym c.is_bad.ensures ∙ c.if-is_bad.false) refl ∙ sym (left_turn c.args.count i _ _ _ _ _ _ _ b s.0.0 s.0.1) ∙ l.invariant.2,
    )

pub returns : goal.returns
returns c =
    let l = c.loop-j in
    let e = l.invariant.0 in
    let none : (length l.j-iterator.iter.a.rest.now ≡ 0) × (length l.j-iterator.iter.b.rest.now ≡ 0) = ⊎_elim (λ h. (h.1.0, sym e ∙ h.1.0)) (λ h. (e ∙ h.1.0, h.1.0)) c.in-None.ensures.steps.0 in
    sym (left_none c.args.count l.j-iterator.count _ _ none.0 none.1) ∙ l.invariant.2
