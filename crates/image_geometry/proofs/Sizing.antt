-- The sizes as the code computes them, number by number.
use Prim.Native.Nat.{ℕ, ◌+◌, ◌-◌, ◌*◌, ◌/◌, ◌%◌, ◌^◌, ◌≤◌, ◌<◌}
use mathlib.Core.Path.{◌≡◌, sym, ap, ◌∙◌, subst}
use mathlib.Core.Bool.{Bool}
use mathlib.Core.Logic.{◌⊎◌, ⊎_elim}
use mathlib.Core.List.{List}
use native.Mathlib.Omega.{arith}
use native.Mathlib.Nat.{div-lt_iff_lt-mul, le_of_lt, mul-le-mul, mul-le-mul_left, div-le_self, le_trans, lt_of_le_of_lt, le-add_right}
use lib.ListN.{length, replicate, length-replicate}
use lib.Pow.{pow_pos, pow_mono}
use borrow.Author.Tests.{eq-eqb, ne_eqb}
use Rattle.lists.specs.Choice.{when◌then◌else◌}
use Rattle.rules.specs.Limits.{addr_bits, max_depth, max_row, max_unit}
use Rattle.rules.specs.Numbers.{ceil_div, top_bits, bits_for}
use Rattle.rules.specs.Geometry.{Layout, soft_bits, soft, row_len_of, full_depth_of, full_chunks, part_depth_of, all_chunks, full_mems, all_mems, columns, chunk_mux_bits}
use Rattle.rules.specs.Image.{trits, image_size}
use Rattle.rules.specs.Beside.Shape.{Small, shape_of}
use Rattle.rules.proofs.Places.{full_all}
use Rattle.rules.proofs.Extents.{trits_is, first_max, second_max, third_max, columns_max}
use Rattle.rules.proofs.Walks.{tops_zero, softs_le, pow_32}
use Rattle.image_geometry.specs.declared.Params.{Params}
use Rattle.image_geometry.specs.declared.Mems.{Mems}
use Rattle.image_geometry.specs.View.{layout_by, shape_by}
use Rattle.image_geometry.specs.Steps.{Narrow, mems_of}

pub soft_max : (mask : ℕ) → soft_bits mask ≤ 32
unfolding soft_bits
soft_max mask = softs_le 32 mask

-- the numbers that the code holds
pub record Held (p : Params) (bits parts deep depth unit : ℕ) : Type 0 where
  pub bits_is : bits ≡ soft_bits p.soft_mask
  pub parts_is : parts ≡ 2 ^ bits
  pub deep_is : deep ≡ 2 ^ p.hard
  pub depth_is : depth ≡ p.depth
  pub unit_is : unit ≡ p.unit

module _ (p : Params) (len : ℕ) (n : Narrow p len) (bits parts deep depth unit : ℕ) (h : Held p bits parts deep depth unit) where
  parts_max : parts ≤ 4294967296
  parts_max = subst (λ (x : ℕ). x ≤ 4294967296) (sym h.parts_is) (pow_32 bits (subst (λ (x : ℕ). x ≤ 32) (sym h.bits_is) (soft_max p.soft_mask)))

  pub row_max : len * parts ≤ max_row * 4294967296
  row_max = mul-le-mul {n₂ = max_row} {m₂ = 4294967296} n.len_max parts_max

  pub chunks_max : depth / parts / deep ≤ max_depth
  chunks_max = le_trans (div-le_self (depth / parts) deep) (le_trans (div-le_self depth parts) (subst (λ (x : ℕ). x ≤ max_depth) (sym h.depth_is) n.depth_max))

  pub more_max : len * parts * (depth / parts / deep + 1) < 4611686018427387904
  more_max = lt_of_le_of_lt (mul-le-mul {n₂ = max_row * 4294967296} {m₂ = max_depth + 1} row_max (omega (arith, chunks_max))) (omega arith)

  pub full_max : len * parts * (depth / parts / deep) < 4611686018427387904
  full_max = lt_of_le_of_lt (mul-le-mul_left (len * parts) (le-add_right _ 1)) more_max

  pub unit_small : (0 < unit) × (unit < 8589934592)
  unit_small = (omega (arith, n.unit_pos, h.unit_is), omega (arith, n.unit_max, h.unit_is))

  module _ (es : List ℕ) (l : length es ≡ len) where
    len_is : len ≡ row_len_of (layout_by p es)
    unfolding row_len_of
    len_is = sym l

    parts_are : parts ≡ 2 ^ soft (layout_by p es)
    unfolding soft
    parts_are = h.parts_is ∙ ap (λ (k : ℕ). 2 ^ k) h.bits_is

    pub deep_are : deep ≡ full_depth_of (layout_by p es)
    unfolding full_depth_of
    deep_are = h.deep_is

    chunks_are : depth / parts / deep ≡ full_chunks (layout_by p es)
    unfolding full_chunks
    chunks_are = λ k. h.depth_is k / parts_are k / deep_are k

    pub part_is : depth / parts % deep ≡ part_depth_of (layout_by p es)
    unfolding part_depth_of
    part_is = λ k. h.depth_is k / parts_are k % deep_are k

    full_are : ceil_div (len * parts * (depth / parts / deep)) unit ≡ full_mems (layout_by p es)
    unfolding full_mems
    full_are = λ k. ceil_div (len_is k * parts_are k * chunks_are k) (h.unit_is k)

    none_are : depth / parts % deep ≡ 0 → full_mems (layout_by p es) ≡ all_mems (layout_by p es)
    unfolding all_mems full_mems all_chunks
    none_are e = rw (eq-eqb (part_depth_of (layout_by p es)) 0 (sym part_is ∙ e))

    some_are : (depth / parts % deep ≡ 0 → ⊥) → ceil_div (len * parts * (depth / parts / deep + 1)) unit ≡ all_mems (layout_by p es)
    unfolding all_mems all_chunks
    some_are e = rw (ne_eqb (part_depth_of (layout_by p es)) 0 (λ x. e (part_is ∙ x))) (λ k. ceil_div (len_is k * parts_are k * (chunks_are k + 1)) (h.unit_is k))

    pub mems_none : (full : ℕ) → full ≡ ceil_div (len * parts * (depth / parts / deep)) unit → depth / parts % deep ≡ 0
        → ◌≡◌ {A = Mems} (record { full = full; all = full; full_depth = deep; part_depth = depth / parts % deep }) (mems_of (layout_by p es))
    mems_none full f e =
        let a = f ∙ full_are in
        λ k. record { full = a k; all = (a ∙ none_are e) k; full_depth = deep_are k; part_depth = part_is k }

    pub mems_some : (full all : ℕ) → full ≡ ceil_div (len * parts * (depth / parts / deep)) unit
        → all ≡ ceil_div (len * parts * (depth / parts / deep + 1)) unit → (depth / parts % deep ≡ 0 → ⊥)
        → ◌≡◌ {A = Mems} (record { full = full; all = all; full_depth = deep; part_depth = depth / parts % deep }) (mems_of (layout_by p es))
    mems_some full all f g e = λ k. record { full = (f ∙ full_are) k; all = (g ∙ some_are e) k; full_depth = deep_are k; part_depth = part_is k }

-- ---- chunk mux bits
ceil_one : (d m : ℕ) → 0 < m → d ≤ m → ceil_div d m ≤ 1
unfolding ceil_div
ceil_one d m pos h = below ((div-lt_iff_lt-mul pos).1 (sums d m pos h))
  where
    below : {x : ℕ} → x < 2 → x ≤ 1
    below l = omega arith

    sums : (d m : ℕ) → 0 < m → d ≤ m → d + (m - 1) < 2 * m
    sums d m l k = omega arith

-- one chunk, or none
pub no_bits : (d k : ℕ) → d ≤ 2 ^ k → top_bits addr_bits (ceil_div d (2 ^ k) - 1) ≡ 0
no_bits d k h =
    let z : ceil_div d (2 ^ k) - 1 ≡ 0 = omega (arith, ceil_one d (2 ^ k) (pow_pos k) h) in
    ap (top_bits addr_bits) z ∙ tops_zero addr_bits

pub wide_power : (d k : ℕ) → d < 4294967296 → 32 < k → d ≤ 2 ^ k
wide_power d k h l = le_trans (le_of_lt h) (pow_mono {i = 32} {j = k} (le_of_lt l))

pub mux_is : (p : Params) (es : List ℕ) (bits : ℕ) → bits ≡ soft_bits p.soft_mask
    → top_bits addr_bits (ceil_div p.depth (2 ^ (bits + p.hard)) - 1) ≡ chunk_mux_bits (layout_by p es)
unfolding chunk_mux_bits bits_for soft
mux_is p es bits e = ap (λ (k : ℕ). top_bits addr_bits (ceil_div p.depth (2 ^ (k + p.hard)) - 1)) e

-- where the code answers 0
pub none_mux : (p : Params) (bits : ℕ) → bits ≡ soft_bits p.soft_mask → p.depth < 4294967296 → (p.depth ≡ 0) ⊎ (32 < bits + p.hard)
    → (es : List ℕ) → 0 ≡ chunk_mux_bits (layout_by p es)
none_mux p bits e h o es = sym (no_bits p.depth (bits + p.hard) (⊎_elim none_small (wide_power p.depth (bits + p.hard) h) o)) ∙ mux_is p es bits e
  where
    none_small : p.depth ≡ 0 → p.depth ≤ 2 ^ (bits + p.hard)
    none_small z = omega arith

-- ---- the sizes made of the memories, for entries of this length
module _ (p : Params) (len : ℕ) (n : Narrow p len) (m : Mems) (e : (es : List ℕ) → length es ≡ len → m ≡ mems_of (layout_by p es)) where
  same_len : len ≡ row_len_of (layout_by p (replicate len 0))
  unfolding row_len_of
  same_len = sym (length-replicate len 0)

  some_small : Small p.depth p.width (row_len_of (layout_by p (replicate len 0))) p.unit p.hard
  some_small = subst (λ (k : ℕ). Small p.depth p.width k p.unit p.hard) same_len n

  is : m ≡ mems_of (layout_by p (replicate len 0))
  is = e (replicate len 0) (length-replicate len 0)

  pub first_fits : m.full * m.full_depth ≤ 1125899906842624
  first_fits = subst (λ (m : Mems). m.full * m.full_depth ≤ 1125899906842624) (sym is) (first_max (layout_by p (replicate len 0)) some_small)

  pub full_under : m.full ≤ m.all
  full_under = subst (λ (m : Mems). m.full ≤ m.all) (sym is) (full_all (layout_by p (replicate len 0)) n.unit_pos)

  pub second_fits : (m.all - m.full) * m.part_depth ≤ 1125899906842624
  second_fits = subst (λ (m : Mems). (m.all - m.full) * m.part_depth ≤ 1125899906842624) (sym is) (second_max (layout_by p (replicate len 0)) some_small)

  pub third_fits : (unit : ℕ) → unit ≡ p.unit → (m.full * m.full_depth + (m.all - m.full) * m.part_depth) * unit ≤ 2251799813685248 * max_unit
  third_fits unit u =
      subst (λ (k : ℕ). (m.full * m.full_depth + (m.all - m.full) * m.part_depth) * k ≤ 2251799813685248 * max_unit) (sym u)
      (subst (λ (m : Mems). (m.full * m.full_depth + (m.all - m.full) * m.part_depth) * p.unit ≤ 2251799813685248 * max_unit) (sym is) (third_max (layout_by p (replicate len 0)) some_small))

  pub columns_fit : (unit : ℕ) → unit ≡ p.unit → m.all * unit ≤ 1073741824 * max_unit
  columns_fit unit u =
      subst (λ (k : ℕ). m.all * k ≤ 1073741824 * max_unit) (sym u)
      (subst (λ (m : Mems). m.all * p.unit ≤ 1073741824 * max_unit) (sym is) (columns_max (layout_by p (replicate len 0)) some_small))

  module _ (unit : ℕ) (u : unit ≡ p.unit) (es : List ℕ) (l : length es ≡ len) where
    small_es : Small p.depth p.width (row_len_of (layout_by p es)) p.unit p.hard
    unfolding row_len_of
    small_es = subst (λ (k : ℕ). Small p.depth p.width k p.unit p.hard) (sym l) n

    trits_are : (m.full * m.full_depth + (m.all - m.full) * m.part_depth) * unit ≡ trits (layout_by p es)
    trits_are =
        (λ k. ((e es l k).full * (e es l k).full_depth + ((e es l k).all - (e es l k).full) * (e es l k).part_depth) * u k)
        ∙ trits_is (layout_by p es) small_es

    columns_are : m.all * unit ≡ columns (layout_by p es)
    unfolding columns
    columns_are = λ k. (e es l k).all * u k

    shape_with : (size : ℕ) → size ≡ image_size (layout_by p es)
        → shape_by (record { full_mems = m.full; all_mems = m.all; full_depth = m.full_depth; part_depth = m.part_depth; columns = m.all * unit; trits = (m.full * m.full_depth + (m.all - m.full) * m.part_depth) * unit; image_size = size })
        ≡ shape_of (layout_by p es)
    unfolding shape_of
    shape_with size s = λ k. record {
      full_mems = (e es l k).full;
      all_mems = (e es l k).all;
      full_depth_of = (e es l k).full_depth;
      part_depth_of = (e es l k).part_depth;
      columns = columns_are k;
      trits = trits_are k;
      image_size = s k;
    }

    pub size_none : p.width ≡ 0 → 0 ≡ image_size (layout_by p es)
    unfolding image_size
    size_none z = rw (eq-eqb p.width 0 z)

    pub size_some : (p.width ≡ 0 → ⊥) → (m.full * m.full_depth + (m.all - m.full) * m.part_depth) * unit ≡ image_size (layout_by p es)
    unfolding image_size
    size_some z = trits_are ∙ sym (ap (λ (t : Bool). when t then 0 else trits (layout_by p es)) (ne_eqb p.width 0 z))

    pub shape_none : p.width ≡ 0
        → shape_by (record { full_mems = m.full; all_mems = m.all; full_depth = m.full_depth; part_depth = m.part_depth; columns = m.all * unit; trits = (m.full * m.full_depth + (m.all - m.full) * m.part_depth) * unit; image_size = 0 })
        ≡ shape_of (layout_by p es)
    shape_none z = shape_with 0 (size_none z)

    pub shape_some : (p.width ≡ 0 → ⊥)
        → shape_by (record { full_mems = m.full; all_mems = m.all; full_depth = m.full_depth; part_depth = m.part_depth; columns = m.all * unit; trits = (m.full * m.full_depth + (m.all - m.full) * m.part_depth) * unit; image_size = (m.full * m.full_depth + (m.all - m.full) * m.part_depth) * unit })
        ≡ shape_of (layout_by p es)
    shape_some z = shape_with _ (size_some z)
