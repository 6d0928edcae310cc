-- What a layout has that passes the test of 23: its sizes, its entries, and what demand 3 asks of it.
use Prim.Native.Nat.{ℕ, ◌*◌, ◌<◌}
use mathlib.Core.Path.{◌≡◌, refl, sym, ap, ◌∙◌}
use mathlib.Core.Logic.{◌≢◌}
use mathlib.Core.Bool.{Bool, true, false, not, ◌&&◌}
use mathlib.Core.List.{List}
use mathlib.Core.Option.{Option, none, some}
use native.Mathlib.Omega.{arith}
use lib.Dec.{eqb, ltb}
use lib.ListN.{length, get_or}
use borrow.Author.Tests.{eq-eqb, eqb-true, eqb-false, ltb-false, leb-false, ne_eqb, not-false}
use Rattle.lists.proofs.Choice.{or_left, or_right, or_false, or_both, and_false, not_is_true}
use Rattle.lists.specs.Choice.{when◌then◌else◌}
use Rattle.lists.proofs.All.{any_at}
use Rattle.rules.specs.Limits.{max_depth, max_width, max_bits, max_row, max_unit, max_hard, max_mask, addr_bits, None}
use Rattle.rules.specs.Numbers.{top_bits}
use Rattle.rules.specs.Geometry.{Layout, row_len_of}
use Rattle.rules.specs.Conditions.{indivisible, bad_entry, bad_names, bad_entries, result_too_large, image_too_large, bad_layout_sizes, bad_layout}
use Rattle.rules.specs.Beside.Shape.{Small, Shape, shape_of, handed_on, laid_shape}
use Rattle.rules.proofs.Demand.{Accepted}

-- ---- sizes within number 1's limits
pos_of : {n : ℕ} → n ≢ 0 → 0 < n
pos_of h = omega (arith, h)

pub small : (d w l u h : ℕ) → bad_layout_sizes d w l u h ≡ false → Small d w l u h
unfolding bad_layout_sizes
small d w l u h e =
    let a = or_false (ltb max_depth d) _ e in
    let b = or_false (ltb max_width w) _ a.1 in
    let c = or_false (ltb max_bits (d * w)) _ b.1 in
    let f = or_false (ltb max_row l) _ c.1 in
    let g = or_false (eqb u 0) _ f.1 in
    let k = or_false (ltb max_unit u) (ltb max_hard h) g.1 in
    record {
      depth_max = ltb-false max_depth d a.0;
      width_max = ltb-false max_width w b.0;
      bits_max = ltb-false max_bits (d * w) c.0;
      len_max = ltb-false max_row l f.0;
      unit_pos = pos_of (eqb-false u 0 g.0);
      unit_max = ltb-false max_unit u k.0;
      hard_max = ltb-false max_hard h k.1;
    }

-- ---- a layout that passes
abbrev pub layout_too_large : Layout → Bool
layout_too_large q = bad_layout_sizes q.depth q.width (row_len_of q) q.unit q.hard

abbrev pub bad_soft : Layout → Bool
bad_soft q = indivisible q.depth (top_bits addr_bits q.soft_mask)

pub record Good (q : Layout) : Type 0 where
  pub sizes : layout_too_large q ≡ false
  pub entries : bad_entries q.width q.entries ≡ false
  pub soft : bad_soft q ≡ false
  pub result : image_too_large q ≡ false
  pub mask : ltb max_mask q.soft_mask ≡ false

pub good : (q : Layout) → bad_layout q ≡ false → Good q
unfolding bad_layout
good q e =
    let a = or_false (layout_too_large q) _ e in
    let b = or_false (bad_entries q.width q.entries) _ a.1 in
    let c = or_false (bad_soft q) _ b.1 in
    let d = or_false (image_too_large q) (ltb max_mask q.soft_mask) c.1 in
    record { sizes = a.0; entries = b.0; soft = c.0; result = d.0; mask = d.1 }

pub good_back : (q : Layout) → Good q → bad_layout q ≡ false
unfolding bad_layout
good_back q g = or_both g.sizes (or_both g.entries (or_both g.soft (or_both g.result g.mask)))

pub names_good : (width : ℕ) (es : List ℕ) → bad_entries width es ≡ false → bad_names width es ≡ false
unfolding bad_entries
names_good width es e = (or_false (bad_names width es) _ e).0

pub named : (width : ℕ) (es : List ℕ) → bad_entries width es ≡ false
    → (j : ℕ) → j < length es → get_or es j None ≢ None → get_or es j None < width
unfolding bad_names bad_entry
named width es e j h n =
    leb-false width (get_or es j None) (and_false _ _ (not_is_true _ (ne_eqb _ _ n)) (any_at (bad_entry width) es (names_good width es e) j None h))

module _ (q : Layout) (e : bad_layout q ≡ false) where
  pub good_small : Small q.depth q.width (row_len_of q) q.unit q.hard
  good_small = small q.depth q.width (row_len_of q) q.unit q.hard (good q e).sizes

  pub good_accepted : Accepted q
  unfolding indivisible
  good_accepted = record {
    sized = record {
      unit_pos = good_small.unit_pos;
      mask_fits = omega (arith, ltb-false max_mask q.soft_mask (good q e).mask);
      depth_fits = omega (arith, good_small.depth_max);
      aligned = eqb-true _ _ (not-false _ (good q e).soft);
    };
    named = named q.width q.entries (good q e).entries;
  }

-- ---- the state of a layout
pub handed_none : (q : Layout) → bad_layout q ≡ true → handed_on q ≡ none
unfolding handed_on
handed_none q e = rw e

pub handed_some : (q : Layout) → bad_layout q ≡ false → handed_on q ≡ some q
unfolding handed_on
handed_some q e = rw e

-- ---- a layout that fails, by its first test that does
module _ (q : Layout) where
  pub bad_1 : layout_too_large q ≡ true → bad_layout q ≡ true
  unfolding bad_layout
  bad_1 a = or_left _ a

  pub bad_7 : layout_too_large q ≡ false → bad_entries q.width q.entries ≡ true → bad_layout q ≡ true
  unfolding bad_layout
  bad_7 a b = or_right a (or_left _ b)

  pub bad_8 : layout_too_large q ≡ false → bad_entries q.width q.entries ≡ false → bad_soft q ≡ true → bad_layout q ≡ true
  unfolding bad_layout
  bad_8 a b c = or_right a (or_right b (or_left _ c))

  pub bad_10 : layout_too_large q ≡ false → bad_entries q.width q.entries ≡ false → bad_soft q ≡ false → image_too_large q ≡ true → bad_layout q ≡ true
  unfolding bad_layout
  bad_10 a b c d = or_right a (or_right b (or_right c (or_left _ d)))

  -- width 0 has no result to be too large
  pub no_result : q.width ≡ 0 → image_too_large q ≡ false
  unfolding image_too_large
  no_result e = ap (λ (t : Bool). not t && result_too_large q) (eq-eqb q.width 0 e)

  pub some_result : (t : Bool) → q.width ≢ 0 → result_too_large q ≡ t → image_too_large q ≡ t
  unfolding image_too_large
  some_result t n e = ap (λ (t : Bool). not t && result_too_large q) (ne_eqb q.width 0 n) ∙ e

-- ---- the sizes of a layout that passes
module _ (q : Layout) where
  pub shape_none : bad_layout q ≡ true → none ≡ laid_shape q
  unfolding laid_shape
  shape_none e = sym (ap (λ (t : Bool). when t then none else some (shape_of q)) e)

  pub shape_some : (s : Shape) → bad_layout q ≡ false → s ≡ shape_of q → some s ≡ laid_shape q
  unfolding laid_shape
  shape_some s e h = ap some h ∙ sym (ap (λ (t : Bool). when t then none else some (shape_of q)) e)

  -- what a caller learns
  never : {s : Shape} → ◌≡◌ {A = Option Shape} none (some s) → ⊥
  never e = let z : ◌≡◌ {A = ℕ} 0 1 = cc in omega arith

  same : {s t : Shape} → ◌≡◌ {A = Option Shape} (some s) (some t) → s ≡ t
  same e = cc

  pub none_told : none ≡ laid_shape q → bad_layout q ≡ true
  none_told e = on (bad_layout q) refl
    where
      on : (t : Bool) → bad_layout q ≡ t → bad_layout q ≡ true
      on true h = h
      on false h = absurd (never (e ∙ sym (shape_some (shape_of q) h refl)))

  pub some_told : (s : Shape) → some s ≡ laid_shape q → (bad_layout q ≡ false) × (s ≡ shape_of q)
  some_told s e = on (bad_layout q) refl
    where
      on : (t : Bool) → bad_layout q ≡ t → (bad_layout q ≡ false) × (s ≡ shape_of q)
      on true h = absurd (never (shape_none h ∙ sym e))
      on false h = (h, same (e ∙ sym (shape_some (shape_of q) h refl)))
