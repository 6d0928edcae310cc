-- Laws of lists joined by `++`: what is taken, dropped, paired, tested and summed of them; and `map` of what is taken and dropped.
use mathlib.Core.Path.{◌≡◌, refl, sym, ap, ◌∙◌}
use mathlib.Core.Bool.{Bool, true, false, ◌||◌}
use Prim.Native.Nat.{ℕ, zero, suc, ◌+◌, ◌-◌}
use native.Mathlib.Omega.{arith}
use native.Mathlib.Nat.{suc-sub-suc, sub-zero, zero-sub, zero-add, add_assoc}
use mathlib.Core.List.{List, [], ◌∷◌, ◌++◌, map}
use lib.ListN.{length, take, drop}
use lib.Seq.{take-nil, drop-nil}
use Rattle.lists.specs.Lists.{any, sum_by, part, pairs}

pub or_assoc : (a b c : Bool) → ((a || b) || c) ≡ (a || (b || c))
or_assoc true b c = refl
or_assoc false b c = refl

module _ {A : Type 0} where
  pub any-joined : (f : A → Bool) (a b : List A) → any f (a ++ b) ≡ (any f a || any f b)
  any-joined f [] b = refl
  any-joined f (x ∷ a) b = rw (any-joined f a b) (sym (or_assoc (f x) (any f a) (any f b)))

module _ {ℓ} {A : Type ℓ} where
  pub take_joined : (n : ℕ) (a b : List A) → take n (a ++ b) ≡ take n a ++ take (n - length a) b
  take_joined n [] b = rw (take-nil {A = A} n, sub-zero)
  take_joined zero (x ∷ a) b = rw zero-sub
  take_joined (suc n) (x ∷ a) b = rw suc-sub-suc (ap (λ (r : List A). x ∷ r) (take_joined n a b))

  pub drop_joined : (n : ℕ) (a b : List A) → drop n (a ++ b) ≡ drop n a ++ drop (n - length a) b
  drop_joined n [] b = rw (drop-nil {A = A} n, sub-zero)
  drop_joined zero (x ∷ a) b = rw zero-sub
  drop_joined (suc n) (x ∷ a) b = rw suc-sub-suc (drop_joined n a b)

  pub sum_joined : (f : A → ℕ) (a b : List A) → sum_by f (a ++ b) ≡ sum_by f a + sum_by f b
  sum_joined f [] b = sym (zero-add (sum_by f b))
  sum_joined f (x ∷ a) b = rw (sum_joined f a b) (sym (add_assoc (f x) (sum_by f a) (sum_by f b)))

module _ {ℓ ℓ'} {A : Type ℓ} {B : Type ℓ'} where
  pub pairs-joined : (a x : List A) (b y : List B) → length a ≡ length b → pairs (a ++ x) (b ++ y) ≡ pairs a b ++ pairs x y
  pairs-joined [] x [] y e = refl
  pairs-joined [] x (q ∷ b) y e = absurd (omega arith)
  pairs-joined (p ∷ a) x [] y e = absurd (omega arith)
  pairs-joined (p ∷ a) x (q ∷ b) y e = ap (λ (r : List (A × B)). (p, q) ∷ r) (pairs-joined a x b y (omega arith))

  pub map_joined : (f : A → B) (a b : List A) → map f (a ++ b) ≡ map f a ++ map f b
  map_joined f [] b = refl
  map_joined f (x ∷ a) b = ap (λ (r : List B). f x ∷ r) (map_joined f a b)

  pub map_take : (f : A → B) (n : ℕ) (l : List A) → map f (take n l) ≡ take n (map f l)
  map_take f zero l = refl
  map_take f (suc n) [] = refl
  map_take f (suc n) (x ∷ l) = ap (λ (r : List B). f x ∷ r) (map_take f n l)

  pub map_drop : (f : A → B) (n : ℕ) (l : List A) → map f (drop n l) ≡ drop n (map f l)
  map_drop f zero l = refl
  map_drop f (suc n) [] = refl
  map_drop f (suc n) (x ∷ l) = map_drop f n l

-- a part of what is mapped, and a sum of what is mapped
module _ {ℓ ℓ'} {A : Type ℓ} {B : Type ℓ'} (f : A → B) where
  pub map_part : (a n : ℕ) (l : List A) → map f (part a n l) ≡ part a n (map f l)
  map_part a n l = map_take f n (drop a l) ∙ ap (take n) (map_drop f a l)

pub sum_map : {A : Type 0} (f : A → ℕ) (l : List A) → sum_by f l ≡ sum_by (λ (n : ℕ). n) (map f l)
sum_map f [] = refl
sum_map f (x ∷ l) = ap (λ (n : ℕ). f x + n) (sum_map f l)
