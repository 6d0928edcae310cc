-- The sum of the sizes of the ports before one.
use mathlib.Core.Path.{◌≡◌}
use Prim.Native.Nat.{ℕ, zero, suc, ◌+◌, ◌<◌}
use native.Mathlib.Numerals.{add-one}
use native.Mathlib.Omega.{arith}
use mathlib.Core.List.{List, [], ◌∷◌}
use lib.ListN.{length, take, get_or}
use Rattle.lists.specs.Lists.{sum_by}

sum_suc : {A : Type 0} (f : A → ℕ) (l : List A) (i : ℕ) (d : A) → i < length l → sum_by f (take (suc i) l) ≡ sum_by f (take i l) + f (get_or l i d)
sum_suc f [] i d h = absurd (omega (arith, h))
sum_suc f (a ∷ l) zero d h = omega arith
sum_suc f (a ∷ l) (suc i) d h = omega (arith, sum_suc f l i d (omega (arith, h)))

-- one port more
pub sum_more : {A : Type 0} (f : A → ℕ) (l : List A) (i : ℕ) (d : A) → i < length l → sum_by f (take (i + 1) l) ≡ sum_by f (take i l) + f (get_or l i d)
sum_more f l i d h = rw add-one (sum_suc f l i d h)
