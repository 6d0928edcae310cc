-- Sums over lists, and over the rows of a list of nets.
use mathlib.Core.Path.{◌≡◌, refl, sym, ap, ◌∙◌}
use Prim.Native.Nat.{ℕ, zero, suc, ◌+◌, ◌*◌}
use native.Mathlib.Nat.{zero-mul, suc-mul}
use native.Mathlib.Omega.{arith}
use mathlib.Core.List.{List, [], ◌∷◌, map}
use lib.ListN.{length, drop}
use lib.Seq.{drop-drop}
use Rattle.lists.specs.Lists.{sum_by, part, up_from}
use Rattle.rules.specs.Merge.{runs}
use Rattle.fallback_masks.proofs.Alike.{row_runs, rows_zero, rows_more}

module _ {A : Type 0} where
  pub sum_same : (f g : A → ℕ) → ((a : A) → f a ≡ g a) → (l : List A) → sum_by f l ≡ sum_by g l
  sum_same f g h [] = refl
  sum_same f g h (a ∷ l) = λ i. h a i + sum_same f g h l i

  pub sum_plus : (f g : A → ℕ) (l : List A) → sum_by (λ (a : A). f a + g a) l ≡ sum_by f l + sum_by g l
  sum_plus f g [] = refl
  sum_plus f g (a ∷ l) = omega (arith, sum_plus f g l)

  pub sum_const : (c : ℕ) (l : List A) → sum_by (λ (a : A). c) l ≡ length l * c
  sum_const c [] = sym (zero-mul c)
  sum_const c (a ∷ l) = omega (arith, sum_const c l, suc-mul (length l) c)

  pub sum_five : (f : A → ℕ) (l : List A) → sum_by (λ (a : A). 5 * f a) l ≡ 5 * sum_by f l
  sum_five f [] = refl
  sum_five f (a ∷ l) = omega (arith, sum_five f l)

  pub sum_map : {C : Type 0} (f : A → ℕ) (g : C → A) (l : List C) → sum_by f (map g l) ≡ sum_by (λ (c : C). f (g c)) l
  sum_map f g [] = refl
  sum_map f g (c ∷ l) = ap (λ (k : ℕ). f (g c) + k) (sum_map f g l)

-- the runs of rows a and so on
rows_from_lem : (u : ℕ) (l : List ℕ) (c a : ℕ) → sum_by (λ (i : ℕ). length (runs (part (i * u) u l))) (up_from a c) ≡ row_runs u c (drop (a * u) l)
rows_from_lem u l zero a = sym (rows_zero u (drop (a * u) l))
rows_from_lem u l (suc c) a =
    ap (λ (k : ℕ). length (runs (part (a * u) u l)) + k) (rows_from_lem u l c (suc a) ∙ ap (λ (k : ℕ). row_runs u c (drop k l)) (suc-mul a u) ∙ ap (row_runs u c) (sym (drop-drop u (a * u) l)))
    ∙ sym (rows_more u c (drop (a * u) l))

pub sum_rows : (u D : ℕ) (l : List ℕ) → sum_by (λ (i : ℕ). length (runs (part (i * u) u l))) (up_from 0 D) ≡ row_runs u D l
sum_rows u D l = rows_from_lem u l D 0 ∙ ap (λ (k : ℕ). row_runs u D (drop k l)) (zero-mul u)
