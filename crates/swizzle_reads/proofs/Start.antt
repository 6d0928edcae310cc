-- The test of the layout before the ports.
use mathlib.Core.Path.{◌≡◌, refl, ap, ◌∙◌}
use Prim.Native.Nat.{ℕ, ◌*◌, ◌≤◌}
use native.Mathlib.Nat.{mul-le-mul, mul-one}
use native.Mathlib.Omega.{arith}
use mathlib.Core.Bool.{false}
use mathlib.Core.Option.{none}
use mathlib.Core.List.{List}
use borrow.Author.Tests.{eq-eqb, ne_eqb}
use Rattle.rules.specs.Limits.{max_columns}
use Rattle.rules.specs.Value.{Value}
use Rattle.rules.specs.Conditions.{bad_layout}
use Rattle.rules.specs.Geometry.{Layout, all_mems, columns}
use Rattle.rules.specs.Beside.Shape as sizes
use Rattle.rules.specs.Beside.Shape.{shape_of, laid_shape}
use Rattle.rules.proofs.GoodLayouts.{none_told}
use Rattle.swizzle_reads.specs.declared.Sizes.{Sizes}
use Rattle.swizzle_reads.specs.Going.{Going, InPort, ports_from, has_rows, reads_if}
use Rattle.swizzle_reads.specs.Able.{Rows, Measures}
use Rattle.swizzle_reads.proofs.Layouts.{rows_are, good_has, bad_has, none_has}

module _ (q : Layout) (room : ℕ) (xs : List InPort) (ns : List ℕ) (output : Value) (g : Going) where
  not_has : has_rows q ≡ false → g ≡ reads_if q room xs ns output g
  unfolding reads_if
  not_has e = rw e

  pub reads_refused : none ≡ laid_shape q → g ≡ reads_if q room xs ns output g
  reads_refused e = not_has (bad_has q (none_told q e))

  pub reads_narrow : bad_layout q ≡ false → q.width ≡ 0 → g ≡ reads_if q room xs ns output g
  reads_narrow e f = not_has (none_has q e (eq-eqb q.width 0 f))

  pub reads_are : (g' : Going) → bad_layout q ≡ false → (q.width ≡ 0 → ⊥) → g' ≡ ports_from q room 0 xs ns output g → g' ≡ reads_if q room xs ns output g
  unfolding reads_if
  reads_are g' e f h = rw (good_has q e (ne_eqb q.width 0 f)) h

module _ (q : Layout) (e : bad_layout q ≡ false) (w : q.width ≡ 0 → ⊥) (all cols : ℕ) (s : sizes.Shape) (h : s ≡ shape_of q) (ea : all ≡ s.all_mems) (ec : cols ≡ s.columns) where
  rows : Rows q
  rows = rows_are q e (ne_eqb q.width 0 w)

  all_is : all ≡ all_mems q
  unfolding shape_of
  all_is = ea ∙ ap (λ (x : sizes.Shape). x.all_mems) h

  cols_are : cols ≡ columns q
  unfolding shape_of
  cols_are = ec ∙ ap (λ (x : sizes.Shape). x.columns) h

  columns_unfold : columns q ≡ all_mems q * q.unit
  unfolding columns
  columns_unfold = refl

  pub cols_low : cols ≤ max_columns
  cols_low = omega (arith, cols_are, rows.columns_max)

  pub all_low : all ≤ max_columns
  all_low =
      omega (arith, all_is, mul-le-mul {n₁ = all_mems q} {m₁ = 1} {n₂ = all_mems q} {m₂ = q.unit} (omega arith) rows.unit_some, mul-one (all_mems q), columns_unfold, rows.columns_max)

  pub measured : (z : Sizes) → z.mems ≡ all → z.columns ≡ cols → Measures q z
  measured z a b = record { rows = rows; mems_are = a ∙ all_is; columns_are = b ∙ cols_are }
