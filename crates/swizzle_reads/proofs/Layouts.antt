-- The limits of a layout that an accepted swizzle has, with rows to a memory.
use mathlib.Core.Path.{◌≡◌, refl, sym, ◌∙◌, subst}
use Prim.Native.Nat.{ℕ, ◌<◌, ◌≤◌}
use mathlib.Core.Bool.{true, false}
use lib.ListN.{length}
use lib.Dec.{eqb, ltb}
use borrow.Author.Tests.{eqb-false, ltb-false}
use Rattle.lists.proofs.Choice.{or_false}
use Rattle.lists.proofs.Parts.{get_d_any}
use Rattle.rules.specs.Limits.{None, max_row, max_columns, max_image}
use Rattle.rules.specs.Geometry.{Layout, row_len_of, columns}
use Rattle.rules.specs.Image.{trits}
use Rattle.rules.specs.Conditions.{result_too_large, bad_layout}
use Rattle.rules.proofs.GoodLayouts.{good, good_small, named, some_result}
use Rattle.swizzle_reads.specs.Going.{has_rows}
use Rattle.swizzle_reads.specs.Able.{Rows}

module _ (q : Layout) (h : bad_layout q ≡ false) (w : eqb q.width 0 ≡ false) where
  row_low : length q.entries ≤ max_row
  unfolding row_len_of
  row_low = (good_small q h).len_max

  not_large : result_too_large q ≡ false
  not_large = sym (some_result q (result_too_large q) (eqb-false q.width 0 w) refl) ∙ (good q h).result

  large : ltb max_columns (columns q) ≡ false
  unfolding result_too_large
  large = (or_false (ltb max_columns (columns q)) (ltb max_image (trits q)) not_large).0

  pub rows_are : Rows q
  rows_are = record {
    unit_some = (good_small q h).unit_pos;
    names = λ i l n.
        subst (λ (k : ℕ). k < q.width) (get_d_any q.entries i None 0 l)
        (named q.width q.entries (good q h).entries i l (λ e. n (get_d_any q.entries i 0 None l ∙ e)));
    width_max = (good_small q h).width_max;
    hard_max = (good_small q h).hard_max;
    row_max = row_low;
    columns_max = ltb-false max_columns (columns q) large;
  }

pub good_has : (q : Layout) → bad_layout q ≡ false → eqb q.width 0 ≡ false → has_rows q ≡ true
unfolding has_rows
good_has q e f = rw (e, f)

pub bad_has : (q : Layout) → bad_layout q ≡ true → has_rows q ≡ false
unfolding has_rows
bad_has q e = rw e

pub none_has : (q : Layout) → bad_layout q ≡ false → eqb q.width 0 ≡ true → has_rows q ≡ false
unfolding has_rows
none_has q e f = rw (e, f)
