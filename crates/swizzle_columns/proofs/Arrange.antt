-- The loops over a row of data or trits: an entry that names no bit is blank.
use mathlib.Core.Path.{◌≡◌, refl, sym, ap, ◌∙◌}
use Prim.Native.Nat.{ℕ, ◌+◌, ◌*◌, ◌<◌, ◌≤◌}
use native.Mathlib.Omega.{arith}
use mathlib.Core.List.{List, ◌++◌, map}
use lib.Dec.{eqb}
use lib.ListN.{length, take, get_or, set, length-map, get_or-map}
use lib.Seq.{sets, take_all}
use Rattle.lists.specs.Choice.{when◌then◌else◌}
use Rattle.lists.proofs.Joined.{map_joined}
use Rattle.lists.proofs.Store.{copy_turn, sets_append}
use Rattle.rules.specs.Limits.{None}
use Rattle.rules.specs.Swizzle.{arrange}
use Rattle.swizzle_columns.specs.Rows.{source_of, row_sources}
use Rattle.swizzle_columns.proofs.Rows.{length_row, row_at, from_row_of, from_step, from_end}

module _ {A : Type 0} (blank : A) where
  bit_by : List A → ℕ → A
  bit_by v s = when eqb s None then blank else get_or v s blank

  arrange_map : (es : List ℕ) (v : List A) → arrange blank es v ≡ map (bit_by v) es
  unfolding arrange bit_by
  arrange_map es v = refl

  pub length_arrange : (es : List ℕ) (v : List A) → length (arrange blank es v) ≡ length es
  length_arrange es v = ap length (arrange_map es v) ∙ length-map es (bit_by v)

  arranged_at : (base : ℕ) (es : List ℕ) (v : List A) (i : ℕ) → get_or (arrange blank (row_sources base es) v) i (bit_by v (source_of base 0)) ≡ bit_by v (source_of base (get_or es i 0))
  arranged_at base es v i =
      ap (λ (l : List A). get_or l i (bit_by v (source_of base 0))) (arrange_map (row_sources base es) v)
      ∙ get_or-map (bit_by v) (row_sources base es) i (source_of base 0) ∙ ap (bit_by v) (row_at base es i)

  module _ (base : ℕ) (es : List ℕ) (v out₀ out : List A) (at i : ℕ) (e : out ≡ sets out₀ at (take i (arrange blank (row_sources base es) v))) where
    pub arrange_turn : (n : A) (s : ℕ) → i < length es → s ≡ source_of base (get_or es i 0) → n ≡ (when eqb s None then blank else get_or v s blank)
        → set out (at + i) n ≡ sets out₀ at (take (i + 1) (arrange blank (row_sources base es) v))
    unfolding bit_by
    arrange_turn n s h p q =
        ap (set out (at + i)) (q ∙ ap (bit_by v) p ∙ sym (arranged_at base es v i))
        ∙ copy_turn out₀ out at i (arrange blank (row_sources base es) v) e (bit_by v (source_of base 0)) (omega (arith, length_arrange (row_sources base es) v, length_row base es))

    pub arrange-done : length es ≤ i → out ≡ sets out₀ at (arrange blank (row_sources base es) v)
    arrange-done h = e ∙ ap (sets out₀ at) (take_all i (arrange blank (row_sources base es) v) (omega (arith, length_arrange (row_sources base es) v, length_row base es)))

  arrange-joined : (a b : List ℕ) (v : List A) → arrange blank (a ++ b) v ≡ arrange blank a v ++ arrange blank b v
  unfolding arrange
  arrange-joined a b v = map_joined (λ e. when eqb e None then blank else get_or v e blank) a b

  module _ (olds width : ℕ) (es : List ℕ) (v out : List A) (j base at : ℕ) (h : j < olds) (e : base ≡ j * width) where
    -- a row's stores, and then those of the rows after it
    pub arrange_row_turn : (out' : List A) → out' ≡ sets out at (arrange blank (row_sources base es) v)
        → sets out' (at + length es) (arrange blank (from_row_of olds width es (j + 1)) v) ≡ sets out at (arrange blank (from_row_of olds width es j) v)
    arrange_row_turn out' p =
        let r = arrange blank (row_sources base es) v in
        let m : length es ≡ length r = sym (length_arrange (row_sources base es) v ∙ length_row base es) in
        ap (λ (k : ℕ). sets out' (at + k) (arrange blank (from_row_of olds width es (j + 1)) v)) m
        ∙ ap (λ (l : List A). sets l (at + length r) (arrange blank (from_row_of olds width es (j + 1)) v)) p
        ∙ sets_append r (arrange blank (from_row_of olds width es (j + 1)) v) out at
        ∙ ap (sets out at) (sym (ap (λ (l : List ℕ). arrange blank l v) (from_step olds width es j base h e) ∙ arrange-joined (row_sources base es) (from_row_of olds width es (j + 1)) v))

  module _ (olds width : ℕ) (es : List ℕ) (v out : List A) (j at : ℕ) (h : olds ≤ j) where
    pub arrange_rows_end : sets out at (arrange blank (from_row_of olds width es j) v) ≡ out
    unfolding arrange
    arrange_rows_end = ap (λ (l : List ℕ). sets out at (arrange blank l v)) (from_end olds width es j h)
