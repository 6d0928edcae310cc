-- Laws of `place_in`, `with_new`, `kept` and `places`, for any element and any test.
use mathlib.Core.Path.{◌≡◌, refl, ap}
use mathlib.Core.Bool.{Bool, true, false}
use Prim.Native.Nat.{ℕ, suc, ◌+◌, ◌<◌, ◌≤◌}
use native.Mathlib.Nat.{add-zero}
use native.Mathlib.Numerals.{add-one}
use native.Mathlib.Omega.{arith}
use mathlib.Core.List.{List, [], ◌∷◌, ◌++◌}
use lib.ListN.{length, take, drop, get_or}
use lib.Seq.{drop-cons, drop-length, take-suc}
use Rattle.lists.specs.Choice.{when◌then◌else◌}
use Rattle.lists.specs.Distinct.{place_in, with_new, kept_from_of, places_from}

module _ {ℓ} {A : Type ℓ} (same : A → A → Bool) where
  -- a search step: the element at j is the same as x, or not
  pub place_hit : (x : A) (l : List A) (j : ℕ) (d : A) → j < length l → same (get_or l j d) x ≡ true → j + place_in same x (drop j l) ≡ j
  place_hit x l j d h e = rw (drop-cons l j d h, e, add-zero)

  pub place_miss : (x : A) (l : List A) (j : ℕ) (d : A) → j < length l → same (get_or l j d) x ≡ false
      → j + place_in same x (drop j l) ≡ j + 1 + place_in same x (drop (j + 1) l)
  place_miss x l j d h e = rw (drop-cons l j d h, e, add-one) (omega arith)

  pub place_none : (x : A) (l : List A) → length l + place_in same x (drop (length l) l) ≡ length l
  place_none x l = rw (drop-length, add-zero)

  le_step : (t : Bool) (k n : ℕ) → k ≤ n → (when t then 0 else suc k) ≤ suc n
  le_step true k n h = omega arith
  le_step false k n h = omega arith

  pub place_le : (x : A) (l : List A) → place_in same x l ≤ length l
  place_le x [] = omega arith
  place_le x (y ∷ l) = le_step (same y x) (place_in same x l) (length l) (place_le x l)

  found_step : (t : Bool) (x y : A) (l : List A) → (place_in same x l < length l → with_new same x l ≡ l)
      → (when t then 0 else suc (place_in same x l)) < suc (length l) → (when t then y ∷ l else y ∷ with_new same x l) ≡ y ∷ l
  found_step true x y l f h = refl
  found_step false x y l f h = ap (λ (r : List A). y ∷ r) (f (omega arith))

  -- an element that is there is not kept again
  pub with_new_found : (x : A) (l : List A) → place_in same x l < length l → with_new same x l ≡ l
  with_new_found x [] h = absurd (omega arith)
  with_new_found x (y ∷ l) h = found_step (same y x) x y l (with_new_found x l) h

  new_step : (t : Bool) (x y : A) (l : List A) → (length l ≤ place_in same x l → with_new same x l ≡ l ++ (x ∷ []))
      → suc (length l) ≤ (when t then 0 else suc (place_in same x l)) → (when t then y ∷ l else y ∷ with_new same x l) ≡ (y ∷ l) ++ (x ∷ [])
  new_step true x y l f h = absurd (omega arith)
  new_step false x y l f h = ap (λ (r : List A). y ∷ r) (f (omega arith))

  -- an element that is not there is kept at the end
  pub with_new_new : (x : A) (l : List A) → length l ≤ place_in same x l → with_new same x l ≡ l ++ (x ∷ [])
  with_new_new x [] h = refl
  with_new_new x (y ∷ l) h = new_step (same y x) x y l (with_new_new x l) h

  length_step : (t : Bool) (x y : A) (l : List A) → length (with_new same x l) ≤ suc (length l)
      → length (when t then y ∷ l else y ∷ with_new same x l) ≤ suc (suc (length l))
  length_step true x y l h = omega arith
  length_step false x y l h = omega arith

  pub length_with_new : (x : A) (l : List A) → length (with_new same x l) ≤ suc (length l)
  length_with_new x [] = omega arith
  length_with_new x (y ∷ l) = length_step (same y x) x y l (length_with_new x l)

  -- no more are kept than there are
  pub length_kept : (acc l : List A) → length (kept_from_of same acc l) ≤ length acc + length l
  length_kept acc [] = omega arith
  length_kept acc (x ∷ l) = omega (arith, length_kept (with_new same x acc) l, length_with_new x acc)

  -- one element more
  kept_snoc : (acc l : List A) (x : A) → kept_from_of same acc (l ++ (x ∷ [])) ≡ with_new same x (kept_from_of same acc l)
  kept_snoc acc [] x = refl
  kept_snoc acc (y ∷ l) x = kept_snoc (with_new same y acc) l x

  places_snoc : (acc l : List A) (x : A) → places_from same acc (l ++ (x ∷ [])) ≡ places_from same acc l ++ (place_in same x (kept_from_of same acc l) ∷ [])
  places_snoc acc [] x = refl
  places_snoc acc (y ∷ l) x = ap (λ (r : List ℕ). place_in same y acc ∷ r) (places_snoc (with_new same y acc) l x)

  -- a turn of the loop over l
  pub kept_more : (acc l : List A) (i : ℕ) (d : A) → i < length l
      → kept_from_of same acc (take (i + 1) l) ≡ with_new same (get_or l i d) (kept_from_of same acc (take i l))
  kept_more acc l i d h = rw (add-one, take-suc l i d h) (kept_snoc acc (take i l) (get_or l i d))

  pub places-more : (acc l : List A) (i : ℕ) (d : A) → i < length l
      → places_from same acc (take (i + 1) l) ≡ places_from same acc (take i l) ++ (place_in same (get_or l i d) (kept_from_of same acc (take i l)) ∷ [])
  places-more acc l i d h = rw (add-one, take-suc l i d h) (places_snoc acc (take i l) (get_or l i d))

  pub length_places : (acc l : List A) → length (places_from same acc l) ≡ length l
  length_places acc [] = refl
  length_places acc (x ∷ l) = ap suc (length_places (with_new same x acc) l)

  with_new-step : (t : Bool) (x y : A) (l : List A) → same y x ≡ t → place_in same x (with_new same x l) ≡ place_in same x l
      → place_in same x (when t then y ∷ l else y ∷ with_new same x l) ≡ (when t then 0 else suc (place_in same x l))
  with_new-step true x y l e f = rw e
  with_new-step false x y l e f = rw e (ap suc f)

  -- the place of an element that was just kept, or found
  pub place_with_new : (x : A) (l : List A) → same x x ≡ true → place_in same x (with_new same x l) ≡ place_in same x l
  place_with_new x [] r = rw r
  place_with_new x (y ∷ l) r = with_new-step (same y x) x y l refl (place_with_new x l r)
