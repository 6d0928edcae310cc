-- Laws of `sum_by`.
use mathlib.Core.Path.{◌≡◌, refl}
use Prim.Native.Nat.{ℕ, zero, suc, ◌+◌, ◌<◌, ◌≤◌}
use native.Mathlib.Numerals.{add-one}
use native.Mathlib.Omega.{arith}
use mathlib.Core.List.{List, [], ◌∷◌}
use lib.ListN.{length, take, drop, get_or, set, drop_of_length-le}
use lib.Seq.{drop-cons}
use Rattle.lists.specs.Lists.{sum_by}

module _ {ℓ} {A : Type ℓ} (f : A → ℕ) (d : A) (z : f d ≡ 0) where
  sum_take_suc : (l : List A) (i : ℕ) → sum_by f (take (suc i) l) ≡ sum_by f (take i l) + f (get_or l i d)
  sum_take_suc [] zero = omega (arith, z)
  sum_take_suc [] (suc i) = omega (arith, z)
  sum_take_suc (a ∷ l) zero = omega arith
  sum_take_suc (a ∷ l) (suc i) = omega (arith, sum_take_suc l i)

  -- one element more
  pub sum_take_more : (l : List A) (i : ℕ) → sum_by f (take (i + 1) l) ≡ sum_by f (take i l) + f (get_or l i d)
  sum_take_more l i = rw add-one (sum_take_suc l i)

  -- a part and the element after it sum to no more than the whole
  pub sum_part : (l : List A) (i : ℕ) → sum_by f (take i l) + f (get_or l i d) ≤ sum_by f l
  sum_part [] zero = omega (arith, z)
  sum_part [] (suc i) = omega (arith, z)
  sum_part (a ∷ l) zero = omega arith
  sum_part (a ∷ l) (suc i) = omega (arith, sum_part l i)

  -- an element exchanged for one of the same number
  pub sum_set : (l : List A) (i : ℕ) (a : A) → f a ≡ f (get_or l i d) → sum_by f (set l i a) ≡ sum_by f l
  sum_set [] i a e = refl
  sum_set (b ∷ l) zero a e = omega arith
  sum_set (b ∷ l) (suc i) a e = omega (arith, sum_set l i a e)

module _ {ℓ} {A : Type ℓ} (f : A → ℕ) where
  -- a turn of a loop that sums
  pub sum_drop : (l : List A) (i : ℕ) (d : A) → i < length l → sum_by f (drop i l) ≡ f (get_or l i d) + sum_by f (drop (i + 1) l)
  sum_drop l i d h = rw (add-one, drop-cons l i d h)

  pub sum_end : (l : List A) (i : ℕ) → length l ≤ i → sum_by f (drop i l) ≡ 0
  sum_end l i h = rw (drop_of_length-le l h)
