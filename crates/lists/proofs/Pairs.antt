-- Laws of `pairs`.
use mathlib.Core.Path.{◌≡◌, refl, ap}
use Prim.Native.Nat.{ℕ, zero, suc, ◌<◌, min}
use native.Mathlib.Omega.{arith}
use mathlib.Core.List.{List, [], ◌∷◌, map}
use lib.ListN.{length, take, get_or, set}
use Rattle.lists.specs.Lists.{pairs}

module _ {ℓ} {A : Type ℓ} where
  pub length_pairs : (a b : List A) → length a ≡ length b → length (pairs a b) ≡ length a
  length_pairs [] b e = refl
  length_pairs (x ∷ a) [] e = absurd (omega arith)
  length_pairs (x ∷ a) (y ∷ b) e = ap suc (length_pairs a b (omega arith))

  pub get_d_pairs : (a b : List A) (i : ℕ) (d : A) → length a ≡ length b → get_or (pairs a b) i (d, d) ≡ (get_or a i d, get_or b i d)
  get_d_pairs [] [] i d e = refl
  get_d_pairs [] (y ∷ b) i d e = absurd (omega arith)
  get_d_pairs (x ∷ a) [] i d e = absurd (omega arith)
  get_d_pairs (x ∷ a) (y ∷ b) zero d e = refl
  get_d_pairs (x ∷ a) (y ∷ b) (suc i) d e = get_d_pairs a b i d (omega arith)

  -- a store into each list is a store of the pair
  pub set_pairs : (a b : List A) (i : ℕ) (x y : A) → pairs (set a i x) (set b i y) ≡ set (pairs a b) i (x, y)
  set_pairs [] b i x y = refl
  set_pairs (u ∷ a) [] zero x y = refl
  set_pairs (u ∷ a) [] (suc i) x y = refl
  set_pairs (u ∷ a) (v ∷ b) zero x y = refl
  set_pairs (u ∷ a) (v ∷ b) (suc i) x y = ap (λ (r : List (A × A)). (u, v) ∷ r) (set_pairs a b i x y)

module _ {ℓ ℓ'} {A : Type ℓ} {B : Type ℓ'} where
  -- as many as the shorter list has
  pub pairs_size : (a : List A) (b : List B) → length (pairs a b) ≡ min (length a) (length b)
  pairs_size [] b = omega arith
  pairs_size (x ∷ a) [] = omega arith
  pairs_size (x ∷ a) (y ∷ b) = omega (arith, pairs_size a b)

  pub pairs_at : (a : List A) (b : List B) (i : ℕ) (d : A) (e : B) → i < length a → i < length b → get_or (pairs a b) i (d, e) ≡ (get_or a i d, get_or b i e)
  pairs_at [] b i d e h g = absurd (omega arith)
  pairs_at (x ∷ a) [] i d e h g = absurd (omega arith)
  pairs_at (x ∷ a) (y ∷ b) zero d e h g = refl
  pairs_at (x ∷ a) (y ∷ b) (suc i) d e h g = pairs_at a b i d e (omega arith) (omega arith)

  pub take_pairs : (n : ℕ) (a : List A) (b : List B) → take n (pairs a b) ≡ pairs (take n a) (take n b)
  take_pairs zero a b = refl
  take_pairs (suc n) [] b = refl
  take_pairs (suc n) (x ∷ a) [] = refl
  take_pairs (suc n) (x ∷ a) (y ∷ b) = ap (λ (r : List (A × B)). (x, y) ∷ r) (take_pairs n a b)

module _ {A B : Type 0} where
  -- a list of pairs from its two columns
  pub pairs-columns : (k : List (A × B)) → pairs (map (λ (p : A × B). p.0) k) (map (λ (p : A × B). p.1) k) ≡ k
  pairs-columns [] = refl
  pairs-columns (p ∷ k) = ap (λ (r : List (A × B)). p ∷ r) (pairs-columns k)
