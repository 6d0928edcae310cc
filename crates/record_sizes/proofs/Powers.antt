-- A power of two is a number with one bit set.
use mathlib.Core.Path.{◌≡◌, refl, sym, ap, ◌∙◌}
use mathlib.Core.Bool.{Bool, true, false, ◌&&◌}
use Prim.Native.Nat.{ℕ, zero, suc, ◌+◌, ◌/◌, ◌%◌, ◌^◌, ◌<◌, ◌≤◌}
use native.Mathlib.Omega.{arith}
use native.Mathlib.Nat.{pow-suc, zero-add, pow-le-pow_right}
use lib.Dec.{eqb, leb}
use lib.Count.{ones_step}
use borrow.Author.Tests.{eq-eqb, ne_eqb, eqb-true, le-leb, leb-true, both_ways}
use Rattle.std.specs.Prelude.{count_ones, ◌==◌}
use Rattle.std.proofs.lemmas.Nat.{zero_from_ones, ones_le_self}
use Rattle.rules.specs.Conditions.{is_power}
use Rattle.lists.specs.Lists.{any, up_from}
use Rattle.lists.proofs.Choice.{cases_le, or_both, and_true}
use Rattle.lists.proofs.All.{any_has}
use Rattle.lists.proofs.UpFrom.{length_up, up_at}

one_bit : (e : ℕ) → count_ones (2 ^ e) ≡ 1
one_bit zero = omega (arith, ones_step 1, ones_le_self 0)
one_bit (suc e) = let s = ones_step (2 ^ suc e) in let h = one_bit e in let d : 2 ^ suc e / 2 ≡ 2 ^ e = omega (arith, pow-suc 2 e) in omega (arith, pow-suc 2 e, ap count_ones d)

power_of : (k n : ℕ) → count_ones n ≡ 1 → n ≤ 2 ^ k → (e : ℕ) × ((e ≤ k) × (n ≡ 2 ^ e))
power_of zero n o h = (0, (omega arith, omega (arith, ones_le_self n)))
power_of (suc k) n o h =
    cases_le (n % 2) 0
    (λ z.
    let s = ones_step n in
    let r = power_of k (n / 2) (omega arith) (omega (arith, pow-suc 2 k)) in
    (suc r.0, (omega (arith, r.1.0), omega (arith, r.1.1, pow-suc 2 r.0))))
    (λ z.
    let s = ones_step n in
    let half = zero_from_ones (n / 2) (omega arith) in
    (0, (omega arith, omega arith)))

no_power : (a k n : ℕ) → ((e : ℕ) → e < a + k → n ≡ 2 ^ e → ⊥) → any (λ e. eqb n (2 ^ e)) (up_from a k) ≡ false
no_power a zero n f = refl
no_power a (suc k) n f = or_both (ne_eqb n (2 ^ a) (λ z. f a (omega arith) z)) (no_power (suc a) k n (λ e h. f e (omega arith)))

module _ (n : ℕ) where
  has_power : (e : ℕ) → e ≤ 15 → n ≡ 2 ^ e → is_power n ≡ true
  unfolding is_power
  has_power e h z =
      any_has (λ k. eqb n (2 ^ k)) (up_from 0 16) e 0 (omega (arith, length_up 0 16)) (eq-eqb n _ (z ∙ ap (λ (k : ℕ). 2 ^ k) (sym (up_at 0 16 e 0 (omega arith) ∙ zero-add e))))

  abbrev by_ones : Bool
  by_ones = count_ones n == 1 && leb n 32768

  by_power : (e : ℕ) → e ≤ 15 → n ≡ 2 ^ e → by_ones ≡ true
  by_power e h z = rw (eq-eqb (count_ones n) 1 (ap count_ones z ∙ one_bit e)) (le-leb n 32768 (omega (arith, pow-le-pow_right {n = 2} (omega arith) {i = e} {j = 15} h)))

  pub power_by_ones : (count_ones n == 1 && leb n 32768) ≡ is_power n
  unfolding is_power
  power_by_ones = on by_ones refl
    where
      on : (t : Bool) → by_ones ≡ t → by_ones ≡ is_power n
      on true e = let b = and_true (count_ones n == 1) (leb n 32768) e in let r = power_of 15 n (eqb-true (count_ones n) 1 b.0) (leb-true n 32768 b.1) in e ∙ sym (has_power r.0 r.1.0 r.1.1)
      on false e = e ∙ sym (no_power 0 16 n (λ k h z. both_ways by_ones e (by_power k (omega arith) z)))
