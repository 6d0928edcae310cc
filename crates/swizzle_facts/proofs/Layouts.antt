-- The layout of a swizzle that no number 1 to 10 refuses, of a memory whose width and depth are not 0.
use mathlib.Core.Path.{◌≡◌, refl, sym, ap, ◌∙◌, subst}
use mathlib.Core.Logic.{◌≢◌, ⊎_elim}
use Prim.Native.Nat.{ℕ, zero, suc, ◌+◌, ◌*◌, ◌/◌, ◌%◌, ◌^◌, ◌≤◌, ◌<◌}
use native.Mathlib.Nat.{mul_assoc, mul_comm, one-mul, zero-mul, le_trans, mul-le-mul, mul-le-mul_right, pow-le-pow_right, lt-div-mul-add, eq-zero-or-pos, div-add-mod'}
use native.Mathlib.Omega.{arith}
use lib.Pow.{pow_pos}
use mathlib.Core.Bool.{Bool, true, false, not}
use lib.ListN.{length, get_or}
use lib.Dec.{eqb, ltb}
use borrow.Author.Tests.{ne_eqb, eqb-true, ltb-false, not-false}
use Rattle.lists.specs.Choice.{when◌then◌else◌}
use Rattle.lists.proofs.Choice.{or_false, and_false, not_is_true, if_false}
use Rattle.lists.proofs.Parts.{get_d_any}
use Rattle.rules.specs.Limits.{None, addr_bits, max_mask, max_columns, max_image}
use Rattle.rules.specs.Numbers.{ceil_div, softs, top_bits}
use Rattle.rules.specs.Value.{Value}
use Rattle.rules.specs.Cell.{Given, Plan}
use Rattle.rules.specs.Geometry.{Layout, layout_of, soft_bits, soft, row_len_of, full_depth_of, full_chunks, part_depth_of, all_chunks, all_mems, columns}
use Rattle.rules.specs.Image.{trits, image_size}
use Rattle.rules.specs.Conditions.{indivisible, result_too_large, image_too_large, bad_layout}
use Rattle.rules.specs.Refusals.{swizzle_number}
use Rattle.rules.proofs.Accepts.{layout_good}
use Rattle.rules.proofs.GoodLayouts.{Good, good, good_small, named}
use Rattle.rules.proofs.Named.{once, name_in}
use Rattle.rules.proofs.Walks.{tops_pos}
use Rattle.swizzle_facts.specs.Passed.{LayoutPassed}
use Rattle.swizzle_laws.proofs.Places.{ceil_holds}

-- ---- soft bits, and the bits up to the top one
softs_none : (n : ℕ) → softs n 0 ≡ 0
unfolding softs
softs_none zero = refl
softs_none (suc n) = omega (arith, softs_none n)

softs_tops : (n m : ℕ) → softs n m ≤ top_bits n m
unfolding softs top_bits
softs_tops zero m = omega arith
softs_tops (suc n) m =
    ⊎_elim (λ e. subst (λ (k : ℕ). softs (suc n) k ≤ top_bits (suc n) k) (sym e) (omega (arith, softs_none n)))
    (λ l. omega (arith, softs_tops n (m / 2), tops_pos n m l))
    (eq-zero-or-pos m)

-- a number that is not 0 is no less than what divides it
divides_le : (d a : ℕ) → 0 < d → 0 < a → d % a ≡ 0 → a ≤ d
divides_le d a h g e = cases (d / a) (div-add-mod' d a)
  where
    cases : (k : ℕ) → k * a + d % a ≡ d → a ≤ d
    cases zero f = absurd (omega (arith, zero-mul a))
    cases (suc k) f = omega (arith, mul-le-mul_right {m = 1} {n = suc k} a (omega arith), one-mul a)

quotient_some : (d a : ℕ) → 0 < a → a ≤ d → 0 < d / a
quotient_some d a h g = cases (d / a) (lt-div-mul-add {a = d} {b = a} h)
  where
    cases : (k : ℕ) → d < k * a + a → 0 < k
    cases zero f = absurd (omega (arith, zero-mul a))
    cases (suc k) f = omega arith

-- chunks of D rows each: full ones, or a part
chunks_by : (base D : ℕ) → 0 < base → base % D ≡ 0 → 0 < base / D
chunks_by base D h e = cases (base / D) (div-add-mod' base D)
  where
    cases : (k : ℕ) → k * D + base % D ≡ base → 0 < k
    cases zero f = absurd (omega (arith, zero-mul D))
    cases (suc k) f = omega arith

some_chunks : (t : Bool) (p f : ℕ) → eqb p 0 ≡ t → (p ≡ 0 → 0 < f) → 0 < (when t then f else f + 1)
some_chunks true p f e h = h (eqb-true p 0 e)
some_chunks false p f e h = omega arith

-- ---- rounded up to the unit
factor_some : (a b : ℕ) → 0 < a * b → 0 < a
factor_some zero b h = absurd (omega (arith, zero-mul b))
factor_some (suc a) b h = omega arith

pub product_some : (a b : ℕ) → 0 < a → 0 < b → 0 < a * b
product_some a b h g = omega (arith, mul-le-mul {n₁ = 1} {m₁ = 1} {n₂ = a} {m₂ = b} h g)

module _ (q : Layout) (e : bad_layout q ≡ false) (w : q.width ≢ 0) (d : q.depth ≢ 0) where
  abbrev g : Good q
  g = good q e

  aligned_is : q.depth % 2 ^ top_bits addr_bits q.soft_mask ≡ 0
  unfolding indivisible
  aligned_is = eqb-true _ _ (not-false _ g.soft)

  width_some : 0 < q.width
  width_some = omega (arith, w)

  depth_some : 0 < q.depth
  depth_some = omega (arith, d)

  -- bit 0 has its entry
  entry_some : 0 < length q.entries
  entry_some = low (name_in 0 q.entries (omega (arith, once q.width q.entries g.entries 0 width_some)))
    where
      low : {a b : ℕ} → a < b → 0 < b
      low h = omega arith

  soft_le : 2 ^ soft q ≤ q.depth
  unfolding soft soft_bits
  soft_le =
      le_trans (pow-le-pow_right (omega arith) (softs_tops addr_bits q.soft_mask))
      (divides_le q.depth (2 ^ top_bits addr_bits q.soft_mask) depth_some (pow_pos (top_bits addr_bits q.soft_mask)) aligned_is)

  chunk_some : 0 < all_chunks q
  unfolding all_chunks part_depth_of full_chunks
  chunk_some =
      some_chunks (eqb (q.depth / 2 ^ soft q % full_depth_of q) 0) (q.depth / 2 ^ soft q % full_depth_of q) (q.depth / 2 ^ soft q / full_depth_of q) refl
      (chunks_by (q.depth / 2 ^ soft q) (full_depth_of q) (quotient_some q.depth (2 ^ soft q) (pow_pos (soft q)) soft_le))

  abbrev chunks : ℕ
  chunks = all_chunks q * 2 ^ soft q

  entries_hold : row_len_of q * 2 ^ soft q * all_chunks q ≡ row_len_of q * chunks
  entries_hold = mul_assoc (row_len_of q) (2 ^ soft q) (all_chunks q) ∙ ap (λ (n : ℕ). row_len_of q * n) (mul_comm (2 ^ soft q) (all_chunks q))

  unit_some : 0 < q.unit
  unit_some = (good_small q e).unit_pos

  columns_hold : row_len_of q * chunks ≤ columns q
  unfolding columns all_mems
  columns_hold = subst (λ (n : ℕ). n ≤ ceil_div (row_len_of q * 2 ^ soft q * all_chunks q) q.unit * q.unit) entries_hold (ceil_holds (row_len_of q * 2 ^ soft q * all_chunks q) q.unit unit_some)

  row_some : 0 < row_len_of q
  unfolding row_len_of
  row_some = entry_some

  chunks_le : chunks ≤ columns q
  chunks_le = omega (arith, columns_hold, mul-le-mul_right {m = 1} {n = row_len_of q} chunks row_some, one-mul chunks)

  column_some : 0 < columns q
  column_some = omega (arith, chunks_le, product_some (all_chunks q) (2 ^ soft q) chunk_some (pow_pos (soft q)))

  mem_some : 0 < all_mems q
  unfolding columns
  mem_some = factor_some (all_mems q) q.unit column_some

  large_not : result_too_large q ≡ false
  unfolding image_too_large
  large_not = and_false (not (eqb q.width 0)) (result_too_large q) (not_is_true (eqb q.width 0) (ne_eqb q.width 0 w)) g.result

  column_max : columns q ≤ max_columns
  unfolding result_too_large
  column_max = ltb-false max_columns (columns q) (or_false (ltb max_columns (columns q)) _ large_not).0

  trit_max : trits q ≤ max_image
  unfolding result_too_large
  trit_max = ltb-false max_image (trits q) (or_false (ltb max_columns (columns q)) _ large_not).1

  image_all : image_size q ≡ trits q
  unfolding image_size
  image_all = if_false (eqb q.width 0) 0 (trits q) (ne_eqb q.width 0 w)

  names_all : (i : ℕ) → i < row_len_of q → (get_or q.entries i 0 ≡ None → ⊥) → get_or q.entries i 0 < q.width
  unfolding row_len_of
  names_all i h n =
      let f : get_or q.entries i None ≡ get_or q.entries i 0 = get_d_any q.entries i None 0 h in
      subst (λ (x : ℕ). x < q.width) f (named q.width q.entries g.entries i h (λ z. n (sym f ∙ z)))

  pub layout_facts : LayoutPassed q
  layout_facts = record {
    small = good_small q e;
    mask_max = ltb-false max_mask q.soft_mask g.mask;
    names = names_all;
    aligned = aligned_is;
    entries_some = row_some;
    chunks_some = chunk_some;
    chunks_max = le_trans chunks_le column_max;
    mems_some = mem_some;
    columns_some = column_some;
    columns_max = column_max;
    trits_max = trit_max;
    image_is = image_all;
  }

-- of a swizzle
pub layout_passed : (next : ℕ) (g : Given) (output : Value) (p : Plan) → swizzle_number next g output p ≡ 0 → g.mem.width ≢ 0 → g.mem.depth ≢ 0 → LayoutPassed (layout_of g.mem p)
unfolding layout_of
layout_passed next g output p e w d = layout_facts (layout_of g.mem p) (layout_good next g output p e) w d
