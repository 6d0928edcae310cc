-- A port's rows and blank rooms, as its functions leave them.
use mathlib.Core.Path.{◌≡◌, refl, sym, ap, ◌∙◌}
use Prim.Native.Nat.{ℕ, ◌*◌, ◌≤◌}
use native.Mathlib.Omega.{arith}
use mathlib.Core.List.{List}
use lib.ListN.{length, take, replicate, length-replicate}
use lib.Seq.{sets, length-sets, take_all}
use Rattle.lists.proofs.Stores.{take_stored}
use Rattle.rules.specs.Limits.{X}
use Rattle.rules.specs.Swizzle.{arrange, repeating}
use Rattle.swizzle_laws.proofs.Order.{length_rows}
use Rattle.swizzle_columns.specs.Rows.{row_sources, sources_from, all_sources}
use Rattle.swizzle_columns.proofs.Rows.{length_row, length_repeating}
use Rattle.swizzle_columns.proofs.Arrange.{length_arrange}

pub length_sources : (olds width : ℕ) (es : List ℕ) → length (all_sources olds width es) ≡ olds * length es
unfolding all_sources sources_from
length_sources olds width es = length_rows (λ i. row_sources (i * width) es) (length es) olds (λ k h. length_row (k * width) es) 0 olds (omega arith)

pub few_entries : (olds el ge m : ℕ) → el ≡ ge → olds * ge ≤ m → olds * el ≤ m
few_entries olds el ge m e h = rw e h

module _ (olds width ge n : ℕ) (es : List ℕ) (el : length es ≡ ge) (e : n ≡ olds * ge) where
  sized : n ≡ length (all_sources olds width es)
  sized = e ∙ ap (λ (k : ℕ). olds * k) (sym el) ∙ sym (length_sources olds width es)

  pub arranged_row : {A : Type 0} (blank : A) (v row row' : List A) → n ≤ length row → row' ≡ sets row 0 (arrange blank (all_sources olds width es) v)
      → take n row' ≡ arrange blank (all_sources olds width es) v
  arranged_row blank v row row' room q = take_stored row row' _ n q (sized ∙ sym (length_arrange blank (all_sources olds width es) v)) room

pub mask_row_lem : (olds width ge n : ℕ) (es v row row' : List ℕ) → length es ≡ ge → n ≡ olds * ge → n ≤ length row
    → row' ≡ sets row 0 (repeating X (all_sources olds width es) v) → take n row' ≡ repeating X (all_sources olds width es) v
mask_row_lem olds width ge n es v row row' el e room q =
    take_stored row row' _ n q (sized olds width ge n es el e ∙ sym (length_repeating X (all_sources olds width es) v)) room

-- what fills a list is the list
pub stored_all : {A : Type 0} (l x ws : List A) → x ≡ sets l 0 ws → length ws ≡ length l → x ≡ ws
stored_all l x ws e s =
    let a : length x ≡ length ws = ap length e ∙ length-sets l 0 ws ∙ sym s in
    sym (take_all (length ws) x (omega arith)) ∙ take_stored l x ws (length ws) e refl (omega arith)

pub blank-room : {A : Type 0} (l l' : List A) (v : A) → l' ≡ sets l 0 (replicate (length l) v) → l' ≡ replicate (length l) v
blank-room l l' v e = stored_all l l' (replicate (length l) v) e (length-replicate (length l) v)
