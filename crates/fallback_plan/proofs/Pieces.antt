-- The pieces of a port by the plan of a fallback: no more than there are rows of the port, so that they fit where the rows do.
use mathlib.Core.Path.{◌≡◌, refl, sym, ap, ◌∙◌, subst}
use Prim.Native.Nat.{ℕ, zero, suc, ◌+◌, ◌-◌, ◌*◌, ◌/◌, ◌%◌, ◌^◌, ◌<◌, ◌≤◌, min}
use native.Mathlib.Nat.{pow-succ', div-one, div-div-eq-div-mul, mul_assoc, mul-le-mul_left, mul-le-mul_right, pow-le-pow_right}
use native.Mathlib.Omega.{arith}
use lib.Pow.{pow-add}
use mathlib.Core.Bool.{Bool, true, false}
use mathlib.Core.List.{[], ◌∷◌}
use lib.ListN.{length}
use lib.Dec.{eqb}
use borrow.Author.Tests.{eqb-true, eqb-false}
use Rattle.lists.specs.Choice.{when◌then◌else◌}
use Rattle.lists.specs.Lists.{sum_by}
use Rattle.rules.specs.Numbers.{softs}
use Rattle.rules.specs.Value.{Value}
use Rattle.rules.specs.Log.{flag}
use Rattle.rules.specs.Geometry.{Layout, all_chunks}
use Rattle.rules.specs.Swizzle.{Role, Soft, High, role_of, doubles, roles, count_doubles, split_by, split_addr}
use Rattle.fallback_plan.proofs.Numbers.{half_ones, ones-softs}
use Rattle.fallback_plan.proofs.Spots.{wide_none, rows_none}

-- ---- the soft bits of an address
flag-soft : (mask : ℕ) (b : Bool) → eqb (mask % 2) 1 ≡ b → flag (doubles (when b then Soft else High)) ≡ mask % 2
unfolding flag doubles
flag-soft mask true e = sym (eqb-true (mask % 2) 1 e)
flag-soft mask false e = let n = eqb-false (mask % 2) 1 e in zero_left (mask % 2) (omega arith) n
  where
    zero_left : (m : ℕ) → m < 2 → (m ≡ 1 → ⊥) → 0 ≡ m
    zero_left m l n = omega (arith, l, n)

doubled : (addr : Value) (mask : ℕ) → count_doubles (roles mask 0 0 addr) ≡ softs (length addr) mask
unfolding count_doubles roles role_of softs
doubled [] mask = refl
doubled (a ∷ more) mask =
    (λ i. flag-soft mask (eqb (mask % 2) 1) refl i + sum_by (λ (r : Role). flag (doubles r)) (roles (mask / 2) (wide_none (eqb (mask % 2) 1) i) (rows_none (eqb (mask % 2) 1) i) more))
    ∙ ap (λ (k : ℕ). mask % 2 + k) (doubled more (mask / 2))

-- ones without the lowest
ones_rest : (old k : ℕ) → old ≤ k → (2 ^ k - 1) / 2 ^ old ≡ 2 ^ (k - old) - 1
ones_rest zero k h = div-one (2 ^ k - 1) ∙ ap (λ (j : ℕ). 2 ^ j - 1) less_none
  where
    less_none : {k : ℕ} → k ≡ k - 0
    less_none = omega arith
ones_rest (suc old) zero h = absurd (omega arith)
ones_rest (suc old) (suc k) h =
    let o = half_ones k (2 ^ suc k - 1) refl in
    let e : k - old ≡ suc k - suc old = omega arith in
    ap (λ (d : ℕ). (2 ^ suc k - 1) / d) (pow-succ' 2 old) ∙ sym (div-div-eq-div-mul (2 ^ suc k - 1) 2 (2 ^ old)) ∙ ap (λ (p : ℕ). p / 2 ^ old) o.1
    ∙ ones_rest old k (omega arith) ∙ ap (λ (j : ℕ). 2 ^ j - 1) e

module _ (q : Layout) (k old : ℕ) (addr : Value) (hard : q.hard ≡ 0) (mask : q.soft_mask ≡ 2 ^ k - 1) (low : old ≤ k) where
  wide_0 : 0 - (old - softs old q.soft_mask) ≡ 0
  wide_0 = omega arith

  rows_0 : q.hard - 0 ≡ 0
  rows_0 = omega (arith, hard)

  soft_bits_lem : count_doubles (roles (q.soft_mask / 2 ^ old) (0 - (old - softs old q.soft_mask)) (q.hard - 0) addr) ≡ min (length addr) (k - old)
  soft_bits_lem =
      (λ i. count_doubles (roles ((ap (λ (m : ℕ). m / 2 ^ old) mask ∙ ones_rest old k low) i) (wide_0 i) (rows_0 i) addr))
      ∙ doubled addr (2 ^ (k - old) - 1) ∙ ones-softs (length addr) (k - old)

  -- a piece for each chunk and each soft bit of the address
  pub pieces_are : (split_addr q old 0 addr).pieces ≡ all_chunks q * 2 ^ min (length addr) (k - old)
  unfolding split_addr split_by
  pieces_are = ap (λ (n : ℕ). all_chunks q * 2 ^ n) soft_bits_lem

  -- 2^old rows of each piece are no more than the rows of all chunks
  pub pieces_fit_lem : (split_addr q old 0 addr).pieces * 2 ^ old ≤ all_chunks q * 2 ^ k
  pieces_fit_lem =
      let e : k - old + old ≡ k = omega (arith, low) in
      let a : 2 ^ min (length addr) (k - old) ≤ 2 ^ (k - old) = pow-le-pow_right (omega arith) (omega arith) in
      let b : 2 ^ min (length addr) (k - old) * 2 ^ old ≤ 2 ^ k = subst (λ (n : ℕ). 2 ^ min (length addr) (k - old) * 2 ^ old ≤ n) (sym (pow-add 2 (k - old) old) ∙ ap (λ (n : ℕ). 2 ^ n) e) (mul-le-mul_right (2 ^ old) a) in
      subst (λ (n : ℕ). n ≤ all_chunks q * 2 ^ k) (sym (ap (λ (n : ℕ). n * 2 ^ old) pieces_are ∙ mul_assoc (all_chunks q) (2 ^ min (length addr) (k - old)) (2 ^ old))) (mul-le-mul_left (all_chunks q) b)
