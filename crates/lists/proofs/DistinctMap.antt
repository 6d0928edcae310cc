-- A function of the elements that tells apart what the test tells apart: the images are kept at the same places. It need do so only of the elements of
-- which P holds, where P holds of all that are given.
use mathlib.Core.Path.{◌≡◌, refl, ap, ◌∙◌}
use mathlib.Core.Bool.{Bool, true, false}
use Prim.Native.Nat.{ℕ, suc, ◌<◌}
use native.Mathlib.Omega.{arith}
use mathlib.Core.List.{List, [], ◌∷◌, map}
use lib.ListN.{length, get_or}
use Rattle.lists.specs.Choice.{when◌then◌else◌}
use Rattle.lists.specs.Distinct.{place_in, with_new, kept_from_of, places_from}

module _ {A : Type 0} (P : A → Type 0) where
  -- P holds of each element
  abbrev pub Each : List A → Type 0
  Each [] = Unit
  Each (x ∷ l) = P x × Each l

  pub each_of : (l : List A) (d : A) → ((i : ℕ) → i < length l → P (get_or l i d)) → Each l
  each_of [] d f = tt
  each_of (x ∷ l) d f = (f 0 (omega arith), each_of l d (λ i h. f (suc i) (omega arith)))

module _ {A : Type 0} (P : A → Type 0) (same : A → A → Bool) where
  each_step : (t : Bool) (x y : A) (l : List A) → P y → Each P l → Each P (with_new same x l) → Each P (when t then y ∷ l else y ∷ with_new same x l)
  each_step true x y l p a b = (p, a)
  each_step false x y l p a b = (p, b)

  each_with_new : (x : A) (l : List A) → P x → Each P l → Each P (with_new same x l)
  each_with_new x [] p a = (p, tt)
  each_with_new x (y ∷ l) p a = each_step (same y x) x y l a.0 a.1 (each_with_new x l p a.1)

  pub each_kept : (acc l : List A) → Each P acc → Each P l → Each P (kept_from_of same acc l)
  each_kept acc [] a b = a
  each_kept acc (x ∷ l) a b = each_kept (with_new same x acc) l (each_with_new x acc b.0 a) b.1

module _ {A B : Type 0} (P : A → Type 0) (same : A → A → Bool) (sameOf : B → B → Bool) (f : A → B)
    (agree : (x y : A) → P x → P y → sameOf (f x) (f y) ≡ same x y) where
  place_map : (x : A) (l : List A) → P x → Each P l → place_in sameOf (f x) (map f l) ≡ place_in same x l
  place_map x [] p a = refl
  place_map x (y ∷ l) p a = rw (agree y x a.0 p, place_map x l p a.1)

  new_step : (t : Bool) (x y : A) (l : List A) → with_new sameOf (f x) (map f l) ≡ map f (with_new same x l)
      → (when t then f y ∷ map f l else f y ∷ with_new sameOf (f x) (map f l)) ≡ map f (when t then y ∷ l else y ∷ with_new same x l)
  new_step true x y l e = refl
  new_step false x y l e = ap (λ (r : List B). f y ∷ r) e

  with_new_map : (x : A) (l : List A) → P x → Each P l → with_new sameOf (f x) (map f l) ≡ map f (with_new same x l)
  with_new_map x [] p a = refl
  with_new_map x (y ∷ l) p a = rw (agree y x a.0 p) (new_step (same y x) x y l (with_new_map x l p a.1))

  kept_from : (acc l : List A) → Each P acc → Each P l → kept_from_of sameOf (map f acc) (map f l) ≡ map f (kept_from_of same acc l)
  kept_from acc [] a b = refl
  kept_from acc (x ∷ l) a b =
      ap (λ (m : List B). kept_from_of sameOf m (map f l)) (with_new_map x acc b.0 a)
      ∙ kept_from (with_new same x acc) l (each_with_new P same x acc b.0 a) b.1

  places_from_lem : (acc l : List A) → Each P acc → Each P l → places_from sameOf (map f acc) (map f l) ≡ places_from same acc l
  places_from_lem acc [] a b = refl
  places_from_lem acc (x ∷ l) a b =
      ap (λ (n : ℕ). n ∷ places_from sameOf (with_new sameOf (f x) (map f acc)) (map f l)) (place_map x acc b.0 a)
      ∙ ap (λ (m : List B). place_in same x acc ∷ places_from sameOf m (map f l)) (with_new_map x acc b.0 a)
      ∙ ap (λ (r : List ℕ). place_in same x acc ∷ r) (places_from_lem (with_new same x acc) l (each_with_new P same x acc b.0 a) b.1)

  -- the images that are kept are those of the elements that are kept, and have the same places
  pub kept_map : (l : List A) → Each P l → kept_from_of sameOf [] (map f l) ≡ map f (kept_from_of same [] l)
  kept_map l b = kept_from [] l tt b

  pub places_map : (l : List A) → Each P l → places_from sameOf [] (map f l) ≡ places_from same [] l
  places_map l b = places_from_lem [] l tt b
