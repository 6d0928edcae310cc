-- A layout and its sizes, as the tests give them.
use Prim.Native.Nat.{ℕ, ◌*◌, ◌≤◌}
use mathlib.Core.Path.{◌≡◌, ap, ◌∙◌}
use mathlib.Core.Bool.{false}
use mathlib.Core.Option.{none, some}
use mathlib.Core.List.{List}
use lib.ListN.{length}
use native.Mathlib.Omega.{arith}
use Rattle.rules.specs.Limits.{max_row}
use Rattle.rules.specs.Geometry.{row_len_of, full_mems, full_depth_of, part_depth_of}
use Rattle.rules.specs.Image.{image_size}
use Rattle.rules.specs.Beside.Shape as sizes
use Rattle.rules.specs.Conditions.{bad_layout}
use Rattle.rules.specs.Beside.Shape.{Small, shape_of, handed_on, laid_shape}
use Rattle.rules.proofs.GoodLayouts.{layout_too_large, good, handed_none, handed_some, none_told, some_told}
use Rattle.rules.proofs.Extents.{deep_max, part_max}
use Rattle.rules.proofs.Shaping.{shape_small}
use Rattle.image_geometry.specs.declared.Params.{Params}
use Rattle.image_geometry.specs.declared.Layout as lent
use Rattle.image_geometry.specs.declared.Shape.{Shape}
use Rattle.image_geometry.specs.View.{layout_by, shape_by}
use Rattle.image_rows.specs.declared.Steps.{Steps}
use Rattle.image_rows.specs.Steps.{steps_by, Ready, ReadyRows}

-- ---- the sizes of a layout within number 1's limits
module _ (p : Params) (es : List ℕ) (s : Shape) (b : layout_too_large (layout_by p es) ≡ false) (h : shape_by s ≡ shape_of (layout_by p es)) where
  small : Small p.depth p.width (row_len_of (layout_by p es)) p.unit p.hard
  small = shape_small (layout_by p es) b

  shape_size : s.image_size ≡ image_size (layout_by p es)
  unfolding shape_of
  shape_size = ap (λ (z : sizes.Shape). z.image_size) h

  full_is : s.full_mems ≡ full_mems (layout_by p es)
  unfolding shape_of
  full_is = ap (λ (z : sizes.Shape). z.full_mems) h

  deep_is : s.full_depth ≡ full_depth_of (layout_by p es)
  unfolding shape_of
  deep_is = ap (λ (z : sizes.Shape). z.full_depth_of) h

  part_is : s.part_depth ≡ part_depth_of (layout_by p es)
  unfolding shape_of
  part_is = ap (λ (z : sizes.Shape). z.part_depth_of) h

  pub shape_shallow : (s.full_depth ≤ 1048576) × (s.part_depth ≤ 1048576)
  shape_shallow = (omega (arith, deep_is, deep_max (layout_by p es) small), omega (arith, part_is, part_max (layout_by p es) small))

  pub shape_ready : (g : Steps) → g ≡ steps_by s p.unit → Ready p g es
  shape_ready g e = record {
    sizes = b;
    steps = e ∙ (λ i. record { full = full_is i; full_step = deep_is i * p.unit; part_step = part_is i * p.unit; unit = p.unit });
  }

-- ---- a layout that passes, and its sizes
module _ (p : Params) (es : List ℕ) (s : Shape) (h : some (shape_by s) ≡ laid_shape (layout_by p es)) where
  told : (bad_layout (layout_by p es) ≡ false) × (shape_by s ≡ shape_of (layout_by p es))
  told = some_told (layout_by p es) (shape_by s) h

  pub passed : bad_layout (layout_by p es) ≡ false
  passed = told.0

  pub handed : handed_on (layout_by p es) ≡ some (layout_by p es)
  handed = handed_some (layout_by p es) passed

  pub size_is : s.image_size ≡ image_size (layout_by p es)
  size_is = shape_size p es s (good (layout_by p es) passed).sizes told.1

  pub shallow : (s.full_depth ≤ 1048576) × (s.part_depth ≤ 1048576)
  shallow = shape_shallow p es s (good (layout_by p es) passed).sizes told.1

  pub ready : (g : Steps) → g ≡ steps_by s p.unit → Ready p g es
  ready = shape_ready p es s (good (layout_by p es) passed).sizes told.1

-- one that does not
pub not_passed : (p : Params) (es : List ℕ) → none ≡ laid_shape (layout_by p es) → handed_on (layout_by p es) ≡ none
not_passed p es h = handed_none (layout_by p es) (none_told (layout_by p es) h)

-- the row of a struct that is ready has no more entries than a layout may have
pub few : {l : lent.Layout} {g : Steps} {n : ℕ} → ReadyRows l g n → length l.entries.now ≤ max_row
unfolding row_len_of
few {l = l} r = (shape_small (layout_by l.params l.entries.now) r.ready.sizes).len_max
