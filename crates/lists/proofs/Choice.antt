-- Laws of choices, of the first number of several, and of what a call leaves.
use mathlib.Core.Path.{◌≡◌, refl, sym, ap, ◌∙◌}
use mathlib.Core.Logic.{◌≢◌}
use Prim.Native.Nat.{ℕ, zero, suc, ◌<◌, ◌≤◌}
use native.Mathlib.Omega.{arith}
use mathlib.Core.Bool.{Bool, true, false, not, ◌&&◌, ◌||◌}
use lib.Dec.{eqb, leb, ltb}
use borrow.Author.Tests.{leb-true, leb-false, ltb-false, eqb-true, ne_eqb, not-false}
use Rattle.lists.specs.Choice.{when◌then◌else◌, ◌or_else◌, leaves}

-- ---- tests
pub or_false : (a b : Bool) → (a || b) ≡ false → (a ≡ false) × (b ≡ false)
or_false true b e = let z : ◌≡◌ {A = ℕ} 0 1 = cc in absurd (omega arith)
or_false false b e = (refl, e)

pub or_both : {a b : Bool} → a ≡ false → b ≡ false → (a || b) ≡ false
or_both {a} {b} e f = ap (λ (t : Bool). t || b) e ∙ f

pub or_left : {a : Bool} (b : Bool) → a ≡ true → (a || b) ≡ true
or_left b e = ap (λ (t : Bool). t || b) e

pub or_right : {a b : Bool} → a ≡ false → b ≡ true → (a || b) ≡ true
or_right {a} {b} e f = ap (λ (t : Bool). t || b) e ∙ f

pub and_true : (a b : Bool) → (a && b) ≡ true → (a ≡ true) × (b ≡ true)
and_true true b e = (refl, e)
and_true false b e = let z : ◌≡◌ {A = ℕ} 0 1 = cc in absurd (omega arith)

pub and_false : (a b : Bool) → a ≡ true → (a && b) ≡ false → b ≡ false
and_false true b e f = f
and_false false b e f = let z : ◌≡◌ {A = ℕ} 0 1 = cc in absurd (omega arith)

pub not_is_true : (a : Bool) → a ≡ false → not a ≡ true
not_is_true true e = sym e
not_is_true false e = refl

pub not_is_false : (a : Bool) → a ≡ true → not a ≡ false
not_is_false true e = refl
not_is_false false e = sym e

pub cases_le {ℓ} : {P : Type ℓ} (a b : ℕ) → (a ≤ b → P) → (b < a → P) → P
cases_le {P = P} a b f g = on (leb a b) refl
  where
    on : (t : Bool) → leb a b ≡ t → P
    on true e = f (leb-true a b e)
    on false e = g (leb-false a b e)

-- ---- a chain of refusals, test by test: what is known where none holds
pub if_zero : (t : Bool) (n rest : ℕ) → (when t then suc n else rest) ≡ 0 → (t ≡ false) × (rest ≡ 0)
if_zero true n rest e = absurd (omega arith)
if_zero false n rest e = (refl, e)

pub refused_not : (t : Bool) (n rest : ℕ) → 0 < n → (when t then n else rest) ≡ 0 → (t ≡ false) × (rest ≡ 0)
refused_not true n rest h e = absurd (omega arith)
refused_not false n rest h e = (refl, e)

pub not_ltb : (a b n rest : ℕ) → 0 < n → (when ltb a b then n else rest) ≡ 0 → (b ≤ a) × (rest ≡ 0)
not_ltb a b n rest h e = (ltb-false a b (refused_not (ltb a b) n rest h e).0, (refused_not (ltb a b) n rest h e).1)

pub not_ne : (a b n rest : ℕ) → 0 < n → (when not (eqb a b) then n else rest) ≡ 0 → (a ≡ b) × (rest ≡ 0)
not_ne a b n rest h e = (eqb-true a b (not-false (eqb a b) (refused_not (not (eqb a b)) n rest h e).0), (refused_not (not (eqb a b)) n rest h e).1)

-- the test that holds, and one that does not
pub hit : {t : Bool} (n rest : ℕ) → t ≡ true → n ≡ (when t then n else rest)
hit n rest e = rw e

pub miss : {t : Bool} (n rest x : ℕ) → t ≡ false → x ≡ rest → x ≡ (when t then n else rest)
miss n rest x e q = rw e q

-- ---- or_else
pub else_first : (n rest : ℕ) → n ≢ 0 → (n or_else rest) ≡ n
unfolding ◌or_else◌
else_first n rest h = rw (ne_eqb n 0 h)

pub else_rest : (n rest : ℕ) → n ≡ 0 → (n or_else rest) ≡ rest
unfolding ◌or_else◌
else_rest n rest e = rw e

nonzero : (n : ℕ) → suc n ≡ 0 → ⊥
nonzero n e = omega arith

-- neither refuses
pub else_zero : (n rest : ℕ) → (n or_else rest) ≡ 0 → (n ≡ 0) × (rest ≡ 0)
else_zero zero rest e = (refl, sym (else_rest 0 rest refl) ∙ e)
else_zero (suc n) rest e = absurd (nonzero n (sym (else_first (suc n) rest (nonzero n)) ∙ e))

-- ---- leaves
module _ {ℓ} {A : Type ℓ} where
  pub leaves_refused : (n : ℕ) (before after : A) → n ≢ 0 → leaves n before after ≡ before
  unfolding leaves
  leaves_refused n before after h = rw (ne_eqb n 0 h)

  pub leaves_accepted : (n : ℕ) (before after : A) → n ≡ 0 → leaves n before after ≡ after
  unfolding leaves
  leaves_accepted n before after e = rw e

-- ---- a chain of tests joined by `or`: the test that holds, and one that does not
pub or_stop : {a : Bool} (b : Bool) → a ≡ true → true ≡ (a || b)
or_stop b e = sym (or_left b e)

pub or_skip : {a b x : Bool} → a ≡ false → x ≡ b → x ≡ (a || b)
or_skip {a} {b} e q = q ∙ ap (λ (t : Bool). t || b) (sym e)

-- what follows matters only where there is no first number
pub else_same : (n x y : ℕ) → (n ≡ 0 → x ≡ y) → (n or_else x) ≡ (n or_else y)
else_same zero x y f = else_rest 0 x refl ∙ f refl ∙ sym (else_rest 0 y refl)
else_same (suc n) x y f = else_first (suc n) x (nonzero n) ∙ sym (else_first (suc n) y (nonzero n))

-- what is left of a chain once its first test does not hold
pub or_rest : {a b : Bool} → a ≡ false → (a || b) ≡ b
or_rest {a} {b} e = ap (λ (t : Bool). t || b) e

-- ---- a choice that is settled
module _ {ℓ} {A : Type ℓ} where
  pub if_true : (b : Bool) (x y : A) → b ≡ true → (when b then x else y) ≡ x
  if_true b x y e = rw e

  pub if_false : (b : Bool) (x y : A) → b ≡ false → (when b then x else y) ≡ y
  if_false b x y e = rw e

-- a later test that holds
pub or_later : (a : Bool) {b : Bool} → b ≡ true → (a || b) ≡ true
or_later true e = refl
or_later false e = e
