-- No number 7 to 10 refuses the plan of a fallback, for a memory that passes 1 to 3; each row is a memory of depth 1.
use mathlib.Core.Path.{◌≡◌, refl, sym, ap, ◌∙◌, subst}
use mathlib.Core.Logic.{◌≢◌, ⊎_elim}
use Prim.Native.Nat.{ℕ, zero, suc, ◌+◌, ◌-◌, ◌*◌, ◌/◌, ◌%◌, ◌^◌, ◌<◌, ◌≤◌, min, max}
use native.Mathlib.Nat.{zero-add, pow-succ', mul_comm, mul_assoc, mul-one, eq-zero-or-pos, div-add-mod', mod-one, div-one, mul-zero, mul-add-div_right, div-eq_of_lt}
use native.Mathlib.Omega.{arith}
use lib.Pow.{pow_pos}
use mathlib.Core.Bool.{Bool, true, false, not, ◌&&◌, ◌||◌}
use mathlib.Core.Option.{none}
use mathlib.Core.List.{List, [], ◌∷◌, map}
use lib.ListN.{length, get_or, length-map}
use lib.Dec.{eqb, ltb, leb}
use borrow.Author.Tests.{eq-eqb, eqb-true, not-false, le-ltb, lt-leb}
use Rattle.lists.specs.Choice.{when◌then◌else◌, ◌or_else◌}
use Rattle.lists.specs.Lists.{any, pairs, up_from}
use Rattle.lists.proofs.Choice.{or_false, if_true}
use Rattle.lists.proofs.UpFrom.{length_up}
use Rattle.rules.specs.Limits.{None, addr_bits, max_bits, max_columns, max_image}
use Rattle.rules.specs.Numbers.{ceil_div, softs, top_bits, largest}
use Rattle.rules.specs.Cell.{WritePort, ReadPort, Mem, write_wide_log2, read_wide_log2, read_at_of}
use Rattle.rules.specs.Geometry.{Layout, layout_of, soft_bits, soft, row_len_of, full_depth_of, full_chunks, part_depth_of, all_chunks, full_mems, all_mems, columns}
use Rattle.rules.specs.Image.{rows_before, mem_start, trits}
use Rattle.rules.specs.Conditions.{indivisible, bad_depth, times, bad_entry, bad_names, bad_entries, bad_soft_mask, bad_wide, bad_writes, bad_reads, all_reads, result_too_large, image_too_large}
use Rattle.rules.specs.Refusals.{plan_number, wide_number, image_number, whole_plan}
use Rattle.rules.specs.Fallback.{max_wide_log2, fallback_plan}
use Rattle.rules.proofs.Walks.{tops_zero, tops_pos, lt_or_le}
use Rattle.rules.proofs.Named.{times_hit, times_miss, times_none}

abbrev ten : ℕ
ten = 10

-- what the rules have where there is no read port
abbrev no_port : ReadPort
no_port = record { addr = []; data_len = 0; flip_flop = none }

-- ---- a mask of k ones
pub half_ones : (k p : ℕ) → 2 ^ suc k - 1 ≡ p → (p % 2 ≡ 1) × (p / 2 ≡ 2 ^ k - 1) × (0 < p)
half_ones k p e = omega (arith, e, pow-succ' 2 k, pow_pos k)

pub ones_tops : (n k : ℕ) → k ≤ n → top_bits n (2 ^ k - 1) ≡ k
ones_tops n zero h = tops_zero n
ones_tops zero (suc k) h = absurd (omega arith)
ones_tops (suc n) (suc k) h =
    let o = half_ones k (2 ^ suc k - 1) refl in
    tops_pos n (2 ^ suc k - 1) o.2 ∙ ap (λ (p : ℕ). suc (top_bits n p)) o.1 ∙ ap suc (ones_tops n k (omega arith))

pub ones-softs : (n k : ℕ) → softs n (2 ^ k - 1) ≡ min n k
unfolding softs
ones-softs zero k = omega arith
ones-softs (suc n) zero = omega (arith, ones-softs n zero)
ones-softs (suc n) (suc k) =
    let o = half_ones k (2 ^ suc k - 1) refl in
    (λ i. o.0 i + softs n (o.1 i)) ∙ omega (arith, ones-softs n k)

-- ---- the depth
divides : (depth k : ℕ) → indivisible depth k ≡ false → depth % 2 ^ k ≡ 0
unfolding indivisible
divides depth k e = eqb-true (depth % 2 ^ k) 0 (not-false _ e)

divides_max : (depth a b : ℕ) → depth % 2 ^ a ≡ 0 → depth % 2 ^ b ≡ 0 → depth % 2 ^ max a b ≡ 0
divides_max depth a b ea eb =
    ⊎_elim (λ l. let e : max a b ≡ b = omega arith in ap (λ (k : ℕ). depth % 2 ^ k) e ∙ eb)
    (λ l. let e : max a b ≡ a = omega arith in ap (λ (k : ℕ). depth % 2 ^ k) e ∙ ea)
    (lt_or_le a b)

divides_all : {A : Type 0} (depth : ℕ) (f : A → ℕ) (l : List A) → any (λ (a : A). indivisible depth (f a)) l ≡ false → depth % 2 ^ largest (map f l) ≡ 0
unfolding largest
divides_all depth f [] e = mod-one depth
divides_all depth f (a ∷ l) e =
    let o = or_false (indivisible depth (f a)) _ e in
    divides_max depth (f a) (largest (map f l)) (divides depth (f a) o.0) (divides_all depth f l o.1)

largest_first : {A : Type 0} (f : A → ℕ) (a : A) (l : List A) → (f a ≤ largest (map f (a ∷ l))) × (largest (map f l) ≤ largest (map f (a ∷ l)))
unfolding largest
largest_first f a l = omega arith

-- ---- entries in order
any_below : (f : ℕ → Bool) (a n : ℕ) → ((i : ℕ) → i < a + n → f i ≡ false) → any f (up_from a n) ≡ false
any_below f a zero h = refl
any_below f a (suc n) h = λ i. h a (omega arith) i || any_below f (suc a) n (λ j l. h j (omega arith)) i

times_past : (b a n : ℕ) → b < a → times b (up_from a n) ≡ 0
times_past b a zero h = times_none b
times_past b a (suc n) h = times_miss b a (up_from (suc a) n) (λ e. omega (arith, e)) ∙ times_past b (suc a) n (omega arith)

times_once : (b a n : ℕ) → a ≤ b → b < a + n → times b (up_from a n) ≡ 1
times_once b a zero h l = absurd (omega arith)
times_once b a (suc n) h l =
    ⊎_elim (λ s. times_miss b a (up_from (suc a) n) (λ e. omega (arith, e)) ∙ times_once b (suc a) n (omega arith) (omega arith))
    (λ s. times_hit b a (up_from (suc a) n) (omega arith) ∙ ap suc (times_past b (suc a) n (omega arith)))
    (lt_or_le a b)

and_off : (a b : Bool) → b ≡ false → (a && b) ≡ false
and_off true b e = e
and_off false b e = refl

pub entries_good : (width : ℕ) → bad_entries width (up_from 0 width) ≡ false
unfolding bad_entries bad_names bad_entry
entries_good width = λ i.
    any_below (λ e. not (eqb e None) && leb width e) 0 width (λ e l. and_off (not (eqb e None)) _ (lt-leb width e (omega (arith, l, zero-add width)))) i
    || any_below (λ b. not (eqb (times b (up_from 0 width)) 1)) 0 width (λ b l. ap not (eq-eqb (times b (up_from 0 width)) 1 (times_once b 0 width (omega arith) l))) i

module _ (m : Mem) where
  abbrev pub K : ℕ
  K = max_wide_log2 m

  writes_low : largest (map (write_wide_log2 m) m.writes) ≤ K
  unfolding max_wide_log2
  writes_low = omega arith

  pub reads_low : largest (map (read_wide_log2 m) m.reads) ≤ K
  unfolding max_wide_log2
  reads_low = omega arith

  pub depth_divides : bad_depth m ≡ false → m.depth % 2 ^ K ≡ 0
  unfolding bad_depth max_wide_log2
  depth_divides e =
      let o = or_false (any (λ (p : WritePort). indivisible m.depth (write_wide_log2 m p)) m.writes) _ e in
      divides_max m.depth _ _ (divides_all m.depth (write_wide_log2 m) m.writes o.0) (divides_all m.depth (read_wide_log2 m) m.reads o.1)

  pub mask_good : K ≤ addr_bits → bad_depth m ≡ false → bad_soft_mask m (fallback_plan m) ≡ false
  unfolding bad_soft_mask fallback_plan indivisible
  mask_good h e = ap (λ (k : ℕ). not (eqb (m.depth % 2 ^ k) 0)) (ones_tops addr_bits K h) ∙ ap not (eq-eqb (m.depth % 2 ^ K) 0 (depth_divides e))

  entries_named : bad_entries m.width (fallback_plan m).entries ≡ false
  unfolding fallback_plan
  entries_named = entries_good m.width

  pub no_7_8 : K ≤ addr_bits → bad_depth m ≡ false → plan_number m (fallback_plan m) ≡ 0
  unfolding plan_number
  no_7_8 h e = λ i. when entries_named i then 7 else when mask_good h e i then 8 else 0

  wide_good : (old : ℕ) → old ≤ K → bad_wide (fallback_plan m) old 0 ≡ false
  unfolding bad_wide fallback_plan
  wide_good old h =
      let z : old - softs old (2 ^ K - 1) ≡ 0 = omega (arith, ones-softs old K, h) in
      ap (λ (k : ℕ). ltb 0 0 || ltb 0 k) z

  writes_wide : (ps : List WritePort) → largest (map (write_wide_log2 m) ps) ≤ K
      → any (λ (x : WritePort × ℕ). bad_wide (fallback_plan m) (write_wide_log2 m x.0) x.1) (pairs ps (map (λ (p : WritePort). zero) ps)) ≡ false
  writes_wide [] h = refl
  writes_wide (p ∷ ps) h =
      let o = largest_first (write_wide_log2 m) p ps in
      λ i. wide_good (write_wide_log2 m p) (omega (arith, o.0, h)) i || writes_wide ps (omega (arith, o.1, h)) i

  -- the read ports from number a on
  reads_wide : (a : ℕ) (ps : List ReadPort) → ((i : ℕ) → i < length ps → read_wide_log2 m (read_at_of m (a + i)) ≤ K)
      → any (λ (x : ℕ × ℕ). bad_wide (fallback_plan m) (read_wide_log2 m (read_at_of m x.0)) x.1) (pairs (up_from a (length ps)) (map (λ (p : ReadPort). zero) ps)) ≡ false
  reads_wide a [] h = refl
  reads_wide a (p ∷ ps) h =
      let z : a + 0 ≡ a = omega arith in
      λ i. wide_good (read_wide_log2 m (read_at_of m a)) (subst (λ (k : ℕ). read_wide_log2 m (read_at_of m k) ≤ K) z (h 0 (omega arith))) i
      || reads_wide (suc a) ps (λ j l. let s : a + suc j ≡ suc a + j = omega arith in subst (λ (k : ℕ). read_wide_log2 m (read_at_of m k) ≤ K) s (h (suc j) (omega arith))) i

  read_at_low : (d : ReadPort) (ps : List ReadPort) (i : ℕ) → i < length ps → read_wide_log2 m (get_or ps i d) ≤ largest (map (read_wide_log2 m) ps)
  unfolding largest
  read_at_low d [] i h = absurd (omega arith)
  read_at_low d (p ∷ ps) zero h = omega arith
  read_at_low d (p ∷ ps) (suc i) h = omega (arith, read_at_low d ps i (omega arith))

  each_read : (i : ℕ) → i < length m.reads → read_wide_log2 m (read_at_of m (0 + i)) ≤ K
  unfolding read_at_of
  each_read i h =
      subst (λ (k : ℕ). read_wide_log2 m (get_or m.reads k no_port) ≤ K) (sym (zero-add i)) (omega (arith, read_at_low no_port m.reads i h, reads_low))

  lens_good : {A : Type 0} (l : List A) (n : ℕ) → n ≡ length l → not (eqb (length (map (λ (a : A). zero) l)) n) ≡ false
  lens_good l n e = ap not (eq-eqb (length (map (λ a. zero) l)) n (length-map l (λ a. zero) ∙ sym e))

  pub writes_good : bad_writes m (fallback_plan m) ≡ false
  unfolding bad_writes fallback_plan
  writes_good = λ i. lens_good m.writes (length m.writes) refl i || writes_wide m.writes writes_low i

  pub reads_good : bad_reads m (all_reads m) (fallback_plan m) ≡ false
  unfolding bad_reads all_reads fallback_plan
  reads_good = λ i. lens_good m.reads (length (up_from 0 (length m.reads))) (length_up 0 (length m.reads)) i || reads_wide 0 m.reads each_read i

  pub no_9 : wide_number m (all_reads m) (fallback_plan m) ≡ 0
  unfolding wide_number
  no_9 = λ i. when writes_good i || reads_good i then 9 else 0

  -- ---- the layout: a memory for each row
  abbrev pub q : Layout
  q = layout_of m (fallback_plan m)

  module _ (h : K ≤ addr_bits) (e : bad_depth m ≡ false) where
    soft_is : soft q ≡ K
    unfolding soft soft_bits layout_of fallback_plan
    soft_is = ones-softs addr_bits K ∙ omega (arith, h)

    row_is : row_len_of q ≡ m.width
    unfolding row_len_of layout_of fallback_plan
    row_is = length_up 0 m.width

    pub depth_one : full_depth_of q ≡ 1
    unfolding full_depth_of layout_of fallback_plan
    depth_one = refl

    pub part_none : part_depth_of q ≡ 0
    unfolding part_depth_of
    part_none = ap (λ (d : ℕ). q.depth / 2 ^ soft q % d) depth_one ∙ mod-one _

    depth_is : q.depth ≡ m.depth
    unfolding layout_of
    depth_is = refl

    unit_is : q.unit ≡ m.width
    unfolding layout_of fallback_plan
    unit_is = refl

    chunks_full : full_chunks q ≡ m.depth / 2 ^ K
    unfolding full_chunks
    chunks_full = ap (λ (d : ℕ). q.depth / 2 ^ soft q / d) depth_one ∙ div-one _ ∙ (λ i. depth_is i / 2 ^ soft_is i)

    pub chunks_all : all_chunks q ≡ m.depth / 2 ^ K
    unfolding all_chunks
    chunks_all = if_true (eqb (part_depth_of q) 0) (full_chunks q) (full_chunks q + 1) (eq-eqb (part_depth_of q) 0 part_none) ∙ chunks_full

    pub whole_depth : 2 ^ K * (m.depth / 2 ^ K) ≡ m.depth
    whole_depth = mul_comm (2 ^ K) (m.depth / 2 ^ K) ∙ omega (arith, div-add-mod' m.depth (2 ^ K), depth_divides e)

    entries_all : (c : ℕ) → c ≡ m.depth / 2 ^ K → row_len_of q * 2 ^ soft q * c ≡ m.depth * m.width
    entries_all c f = (λ i. row_is i * 2 ^ soft_is i * f i) ∙ mul_assoc m.width (2 ^ K) (m.depth / 2 ^ K) ∙ ap (λ (d : ℕ). m.width * d) whole_depth ∙ mul_comm m.width m.depth

    ceil_all : (d w : ℕ) → 0 < w → ceil_div (d * w) w ≡ d
    unfolding ceil_div
    ceil_all d w l =
        let k : w - 1 < w = omega arith in
        mul-add-div_right {m = w} l d (w - 1) ∙ ap (λ (x : ℕ). d + x) (div-eq_of_lt k) ∙ omega arith

    module _ (w : m.width ≢ 0) where
      pub mems_are : all_mems q ≡ m.depth
      unfolding all_mems
      mems_are = (λ i. ceil_div (entries_all (all_chunks q) chunks_all i) (unit_is i)) ∙ ceil_all m.depth m.width (omega (arith, w))

      pub full_are : full_mems q ≡ m.depth
      unfolding full_mems
      full_are = (λ i. ceil_div (entries_all (full_chunks q) chunks_full i) (unit_is i)) ∙ ceil_all m.depth m.width (omega (arith, w))

      pub columns_are : columns q ≡ m.depth * m.width
      unfolding columns
      columns_are = λ i. mems_are i * unit_is i

      pub trits_are : trits q ≡ m.depth * m.width
      unfolding trits mem_start rows_before
      trits_are =
          (λ i. (min (mems_are i) (full_are i) * depth_one i + (mems_are i - full_are i) * part_none i) * unit_is i)
          ∙ ap (λ (d : ℕ). d * m.width) (omega (arith, mul-one (min m.depth m.depth), mul-zero (m.depth - m.depth)))

      result_good : m.depth * m.width ≤ max_bits → result_too_large q ≡ false
      unfolding result_too_large
      result_good l = λ i. le-ltb max_columns (columns q) (omega (arith, columns_are, l)) i || le-ltb max_image (trits q) (omega (arith, trits_are, l)) i

      image_wide : m.depth * m.width ≤ max_bits → image_too_large q ≡ false
      unfolding image_too_large
      image_wide l = and_off (not (eqb q.width 0)) (result_too_large q) (result_good l)

    width_is : q.width ≡ m.width
    unfolding layout_of
    width_is = refl

    image_flat : m.width ≡ 0 → image_too_large q ≡ false
    unfolding image_too_large
    image_flat z = ap (λ (b : Bool). not b && result_too_large q) (eq-eqb q.width 0 (width_is ∙ z))

    pub image_good : m.depth * m.width ≤ max_bits → image_too_large q ≡ false
    image_good l = ⊎_elim (λ z. image_flat z) (λ p. image_wide (λ z. omega (arith, p, z)) l) (eq-zero-or-pos m.width)

    -- ---- no number of a plan
    no_10 : m.depth * m.width ≤ max_bits → image_number m (fallback_plan m) ≡ 0
    unfolding image_number
    no_10 l = ap (λ (b : Bool). when b then ten else zero) (image_good l)

    pub no_number : m.depth * m.width ≤ max_bits → whole_plan m (fallback_plan m) ≡ 0
    unfolding whole_plan ◌or_else◌
    no_number l = λ i. no_7_8 h e i or_else no_9 i or_else no_10 l i
