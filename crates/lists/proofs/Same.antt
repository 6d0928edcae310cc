-- Laws of `same_list`: it tests equality.
use mathlib.Core.Path.{◌≡◌, refl, ap}
use Prim.Native.Nat.{ℕ}
use native.Mathlib.Omega.{arith}
use mathlib.Core.Bool.{true}
use mathlib.Core.List.{List, [], ◌∷◌}
use lib.Dec.{eqb}
use borrow.Author.Tests.{eqb-true, eq-eqb}
use Rattle.lists.specs.Lists.{same_list}
use Rattle.lists.proofs.Choice.{and_true}

pub same_refl : (l : List ℕ) → same_list l l ≡ true
same_refl [] = refl
same_refl (a ∷ l) = rw (eq-eqb a a refl) (same_refl l)

pub same_true : (l m : List ℕ) → same_list l m ≡ true → l ≡ m
same_true [] [] e = refl
same_true [] (b ∷ m) e = let z : ◌≡◌ {A = ℕ} 0 1 = cc in absurd (omega arith)
same_true (a ∷ l) [] e = let z : ◌≡◌ {A = ℕ} 0 1 = cc in absurd (omega arith)
same_true (a ∷ l) (b ∷ m) e =
    let h = and_true (eqb a b) (same_list l m) e in
    rw (eqb-true a b h.0) (ap (λ (r : List ℕ). b ∷ r) (same_true l m h.1))
