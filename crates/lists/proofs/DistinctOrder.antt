-- Elements are kept in order of first appearance: what is kept stays at its place, whatever comes after.
use mathlib.Core.Path.{◌≡◌, refl, ap, ◌∙◌}
use mathlib.Core.Bool.{Bool, true, false}
use Prim.Native.Nat.{ℕ, zero, suc, ◌≤◌}
use native.Mathlib.Omega.{arith}
use mathlib.Core.List.{List, [], ◌∷◌}
use lib.Dec.{eqb}
use lib.ListN.{length, take}
use lib.Seq.{take-length}
use Rattle.lists.specs.Choice.{when◌then◌else◌}
use Rattle.lists.specs.Distinct.{with_new, kept_from_of, kept, places}

module _ {ℓ} {A : Type ℓ} (same : A → A → Bool) where
  stays_step : (t : Bool) (n : ℕ) (x y : A) (l : List A) → take n (with_new same x l) ≡ take n l → take (suc n) (when t then y ∷ l else y ∷ with_new same x l) ≡ y ∷ take n l
  stays_step true n x y l e = refl
  stays_step false n x y l e = ap (λ (r : List A). y ∷ r) e

  new_stays : (n : ℕ) (x : A) (l : List A) → n ≤ length l → take n (with_new same x l) ≡ take n l
  new_stays zero x l h = refl
  new_stays (suc n) x [] h = absurd (omega arith)
  new_stays (suc n) x (y ∷ l) h = stays_step (same y x) n x y l (new_stays n x l (omega arith))

  length_step : (t : Bool) (x y : A) (l : List A) → length l ≤ length (with_new same x l) → suc (length l) ≤ length (when t then y ∷ l else y ∷ with_new same x l)
  length_step true x y l h = omega arith
  length_step false x y l h = omega arith

  length_new : (x : A) (l : List A) → length l ≤ length (with_new same x l)
  length_new x [] = omega arith
  length_new x (y ∷ l) = length_step (same y x) x y l (length_new x l)

  stays : (n : ℕ) (acc l : List A) → n ≤ length acc → take n (kept_from_of same acc l) ≡ take n acc
  stays n acc [] h = refl
  stays n acc (x ∷ l) h = stays n (with_new same x acc) l (omega (arith, length_new x acc)) ∙ new_stays n x acc h

  pub kept_stays : (acc l : List A) → take (length acc) (kept_from_of same acc l) ≡ acc
  kept_stays acc l = stays (length acc) acc l (omega arith) ∙ take-length acc

-- of 1, 2, 1 the second 1 is not kept, and has the place of the first
first_kept : kept eqb (1 ∷ 2 ∷ 1 ∷ []) ≡ 1 ∷ 2 ∷ []
first_kept = refl

first_places : places eqb (1 ∷ 2 ∷ 1 ∷ []) ≡ 0 ∷ 1 ∷ 0 ∷ []
first_places = refl
