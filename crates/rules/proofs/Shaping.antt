-- The sizes of a layout as a call: what its answer is, and what it tells.
use Prim.Native.Nat.{ℕ, suc, ◌-◌, ◌%◌, ◌^◌, ◌≤◌, ◌<◌}
use native.Mathlib.Nat.{zero-add}
use lib.Seq.{sets}
use borrow.Author.Tests.{lt-ltb, le-ltb, eq-eqb, ne_eqb, le-leb, lt-leb}
use Rattle.lists.proofs.Store.{sets_at}
use mathlib.Core.Path.{◌≡◌, refl, sym, ap, ◌∙◌, subst}
use mathlib.Core.Logic.{◌≢◌}
use mathlib.Core.Bool.{Bool, true, false, ◌||◌}
use mathlib.Core.List.{List, ◌++◌}
use native.Mathlib.Omega.{arith}
use lib.ListN.{length, replicate, length-replicate}
use Rattle.lists.proofs.Choice.{if_zero, or_left, or_right, or_both}
use Rattle.rules.specs.Geometry.{Layout, row_len_of, full_mems, all_mems, full_depth_of, part_depth_of, columns, swizzle_depths}
use Rattle.rules.specs.Limits.{addr_bits, max_columns, max_image}
use Rattle.rules.specs.Numbers.{top_bits}
use Rattle.rules.specs.Image.{trits, place_of, index_of}
use Rattle.rules.specs.Conditions.{no_room_of, indivisible, result_too_large, not_below}
use Rattle.rules.specs.Answers.{Refused, Accepted}
use Rattle.rules.specs.Beside.Shape.{Shape, Small, shape_of, shape_number, shape_call, depths_refusal, soft_mask_number, result_number, Located, place_number, place_call}
use Rattle.rules.proofs.Answers.{answer_refused, answer_accepted, tells_accepted, tells_refused}
use Rattle.rules.proofs.GoodLayouts.{layout_too_large, small}

module _ (q : Layout) where
  number_one : layout_too_large q ≡ true → shape_number q ≡ 1
  unfolding shape_number
  number_one e = rw e

  number_none : layout_too_large q ≡ false → shape_number q ≡ 0
  unfolding shape_number
  number_none e = rw e

  none_passed : shape_number q ≡ 0 → layout_too_large q ≡ false
  unfolding shape_number
  none_passed e = (if_zero (layout_too_large q) 0 0 e).0

  pub shape_refused : layout_too_large q ≡ true → Refused 1 ≡ shape_call q
  unfolding shape_call
  shape_refused e = sym (answer_refused (shape_number q) (shape_of q) (λ z. not_zero (sym (number_one e) ∙ z)) ∙ ap Refused (number_one e))
    where
      not_zero : ◌≡◌ {A = ℕ} 1 0 → ⊥
      not_zero h = omega arith

  pub shape_done : layout_too_large q ≡ false → (s : Shape) → s ≡ shape_of q → Accepted s ≡ shape_call q
  unfolding shape_call
  shape_done e s h = ap Accepted h ∙ sym (answer_accepted (shape_number q) (shape_of q) (number_none e))

  -- what a caller learns
  pub shape_told : (s : Shape) → Accepted s ≡ shape_call q → (layout_too_large q ≡ false) × (s ≡ shape_of q)
  unfolding shape_call
  shape_told s e =
      let t = tells_accepted (shape_number q) (shape_of q) s e in
      (none_passed t.0, t.1)

  pub shape_not_told : (k : ℕ) → Refused k ≡ shape_call q → (k ≡ 1) × (layout_too_large q ≡ true)
  unfolding shape_call
  shape_not_told k e = on (layout_too_large q) refl
    where
      t : (shape_number q ≡ k) × (shape_number q ≢ 0)
      t = tells_refused (shape_number q) k (shape_of q) e

      on : (b : Bool) → layout_too_large q ≡ b → (k ≡ 1) × (layout_too_large q ≡ true)
      on true h = (sym t.0 ∙ number_one h, h)
      on false h = absurd (t.1 (number_none h))

  pub shape_small : layout_too_large q ≡ false → Small q.depth q.width (row_len_of q) q.unit q.hard
  shape_small = small q.depth q.width (row_len_of q) q.unit q.hard

-- ---- the depths into lent room
module _ (q : Layout) (room : ℕ) where
  pub depths_1 : layout_too_large q ≡ true → depths_refusal room q ≡ 1
  unfolding depths_refusal
  depths_1 e = rw e

  pub depths_20 : layout_too_large q ≡ false → room < all_mems q → depths_refusal room q ≡ 20
  unfolding depths_refusal no_room_of
  depths_20 e l = rw (e, lt-ltb room (all_mems q) l)

  pub depths_0 : layout_too_large q ≡ false → all_mems q ≤ room → depths_refusal room q ≡ 0
  unfolding depths_refusal no_room_of
  depths_0 e l = rw (e, le-ltb room (all_mems q) l)

-- the two runs of depths are one list
pub depths_stored : (q : Layout) (out mid after : List ℕ) (full all deep part : ℕ)
    → full ≡ full_mems q → all ≡ all_mems q → deep ≡ full_depth_of q → part ≡ part_depth_of q
    → mid ≡ sets out 0 (replicate full deep) → after ≡ sets mid full (replicate (all - full) part) → after ≡ sets out 0 (swizzle_depths q)
unfolding swizzle_depths
depths_stored q out mid after full all deep part a b c d e f =
    f ∙ ap (λ (l : List ℕ). sets l full (replicate (all - full) part)) e
    ∙ sets_at out 0 full (replicate full deep) (replicate (all - full) part) (sym (zero-add (length (replicate full deep)) ∙ length-replicate full deep))
    ∙ (λ i. sets out 0 (replicate (a i) (c i) ++ replicate (b i - a i) (d i)))

-- ---- number 8
pub soft_8 : (depth mask : ℕ) → depth % 2 ^ top_bits addr_bits mask ≢ 0 → soft_mask_number depth mask ≡ 8
unfolding soft_mask_number indivisible
soft_8 depth mask h = rw (ne_eqb _ 0 h)

pub soft_0 : (depth mask : ℕ) → depth % 2 ^ top_bits addr_bits mask ≡ 0 → soft_mask_number depth mask ≡ 0
unfolding soft_mask_number indivisible
soft_0 depth mask h = rw (eq-eqb _ 0 h)

-- what the number tells
pub soft_passed : (depth mask : ℕ) → soft_mask_number depth mask ≡ 0 → indivisible depth (top_bits addr_bits mask) ≡ false
unfolding soft_mask_number
soft_passed depth mask e = (if_zero (indivisible depth (top_bits addr_bits mask)) 7 0 e).0

soft_zero : (depth mask : ℕ) → indivisible depth (top_bits addr_bits mask) ≡ false → soft_mask_number depth mask ≡ 0
unfolding soft_mask_number
soft_zero depth mask e = rw e

pub soft_failed : (depth mask : ℕ) → soft_mask_number depth mask ≢ 0 → indivisible depth (top_bits addr_bits mask) ≡ true
soft_failed depth mask h = on (indivisible depth (top_bits addr_bits mask)) refl
  where
    on : (t : Bool) → indivisible depth (top_bits addr_bits mask) ≡ t → indivisible depth (top_bits addr_bits mask) ≡ true
    on true e = e
    on false e = absurd (h (soft_zero depth mask e))

-- ---- number 10
module _ (q : Layout) (s : Shape) (e : s ≡ shape_of q) where
  columns_is : s.columns ≡ columns q
  unfolding shape_of
  columns_is = ap (λ (x : Shape). x.columns) e

  trits_is : s.trits ≡ trits q
  unfolding shape_of
  trits_is = ap (λ (x : Shape). x.trits) e

  pub large_columns : max_columns < s.columns → result_too_large q ≡ true
  unfolding result_too_large
  large_columns l = or_left _ (lt-ltb max_columns (columns q) (subst (λ (n : ℕ). max_columns < n) columns_is l))

  pub large_trits : s.columns ≤ max_columns → max_image < s.trits → result_too_large q ≡ true
  unfolding result_too_large
  large_trits l m =
      or_right (le-ltb max_columns (columns q) (subst (λ (n : ℕ). n ≤ max_columns) columns_is l)) (lt-ltb max_image (trits q) (subst (λ (n : ℕ). max_image < n) trits_is m))

  pub not_large : s.columns ≤ max_columns → s.trits ≤ max_image → result_too_large q ≡ false
  unfolding result_too_large
  not_large l m =
      or_both (le-ltb max_columns (columns q) (subst (λ (n : ℕ). n ≤ max_columns) columns_is l)) (le-ltb max_image (trits q) (subst (λ (n : ℕ). n ≤ max_image) trits_is m))

module _ (q : Layout) where
  pub result_1 : layout_too_large q ≡ true → result_number q ≡ 1
  unfolding result_number
  result_1 e = rw e

  pub result_10 : layout_too_large q ≡ false → result_too_large q ≡ true → result_number q ≡ 10
  unfolding result_number
  result_10 e f = rw (e, f)

  pub result_0 : layout_too_large q ≡ false → result_too_large q ≡ false → result_number q ≡ 0
  unfolding result_number
  result_0 e f = rw (e, f)

-- ---- the place of an entry
module _ (q : Layout) (row i : ℕ) where
  place_1 : layout_too_large q ≡ true → place_number q row i ≡ 1
  unfolding place_number
  place_1 e = rw e

  place_15 : layout_too_large q ≡ false → (not_below q.depth row || not_below (row_len_of q) i) ≡ true → place_number q row i ≡ 15
  unfolding place_number
  place_15 e f = rw (e, f)

  place_0 : layout_too_large q ≡ false → (not_below q.depth row || not_below (row_len_of q) i) ≡ false → place_number q row i ≡ 0
  unfolding place_number
  place_0 e f = rw (e, f)

  refused_by_lem : (n : ℕ) → place_number q row i ≡ suc n → Refused (suc n) ≡ place_call q row i
  unfolding place_call
  refused_by_lem n e = sym (answer_refused (place_number q row i) _ (λ z. not_zero (sym e ∙ z)) ∙ ap Refused e)
    where
      not_zero : suc n ≡ 0 → ⊥
      not_zero h = omega arith

  pub placed_1 : layout_too_large q ≡ true → Refused 1 ≡ place_call q row i
  placed_1 e = refused_by_lem 0 (place_1 e)

  pub placed_15_row : layout_too_large q ≡ false → q.depth ≤ row → Refused 15 ≡ place_call q row i
  unfolding not_below
  placed_15_row e l = refused_by_lem 14 (place_15 e (or_left _ (le-leb q.depth row l)))

  pub placed_15_entry : layout_too_large q ≡ false → row < q.depth → row_len_of q ≤ i → Refused 15 ≡ place_call q row i
  unfolding not_below
  placed_15_entry e l k = refused_by_lem 14 (place_15 e (or_right (lt-leb q.depth row l) (le-leb (row_len_of q) i k)))

  pub placed_at : (p : Located) → layout_too_large q ≡ false → row < q.depth → i < row_len_of q → p ≡ record { place = place_of q row i; index = index_of q row i } → Accepted p ≡ place_call q row i
  unfolding place_call not_below
  placed_at p e l k h = ap Accepted h ∙ sym (answer_accepted (place_number q row i) _ (place_0 e (or_both (lt-leb q.depth row l) (lt-leb (row_len_of q) i k))))
