-- The sizes of an accepted swizzle are never refused 17.
use Prim.Native.Nat.{ℕ, ◌+◌, ◌-◌, ◌*◌, ◌^◌, ◌<◌, ◌≤◌}
use mathlib.Core.Path.{◌≡◌, refl, sym, ap, ◌∙◌}
use mathlib.Core.Logic.{◌≢◌}
use mathlib.Core.Bool.{Bool, true, false, not, ◌&&◌}
use native.Mathlib.Omega.{arith}
use native.Mathlib.Nat.{zero-add, zero-mul, mul-zero, mul_comm, mod-lt, pow-le-pow_right, mul-le-mul}
use lib.Dec.{eqb, ltb, leb}
use lib.Pow.{pow_pos}
use lib.ListN.{get_or}
use borrow.Author.Tests.{eqb-true, eqb-false, eq-eqb, ne_eqb, lt-ltb, le-ltb, lt-leb, ltb-false}
use Rattle.lists.specs.Lists.{up_from}
use Rattle.lists.proofs.Choice.{or_both, or_false, and_false, not_is_true}
use Rattle.lists.proofs.All.{any_has}
use Rattle.lists.proofs.UpFrom.{up_at, length_up}
use Rattle.rules.specs.Limits.{max_depth, max_partial, max_columns, max_image}
use Rattle.rules.specs.Value.{Value}
use Rattle.rules.specs.Cell.{Given, Plan}
use Rattle.rules.specs.Geometry.{Layout, layout_of, soft, row_len_of, full_depth_of, part_depth_of, full_chunks, all_chunks, full_mems, all_mems, columns}
use Rattle.rules.specs.Image.{rows_before, mem_start, trits, image_size}
use Rattle.rules.specs.Record.{Sizes, depth_if, sizes_of, size_mems, size_trits}
use Rattle.rules.specs.Conditions.{result_too_large, image_too_large, is_power, bad_unit, unlike, bad_depths, bad_sizes, bad_layout}
use Rattle.rules.specs.Refusals.{swizzle_number}
use Rattle.rules.proofs.Places.{ceil_mono, before_high}
use Rattle.rules.proofs.GoodLayouts.{good, good_small}
use Rattle.rules.proofs.Accepts.{layout_good}

-- a count is 0, or not
zero_or {ℓ} : {P : Type ℓ} (n : ℕ) → (eqb n 0 ≡ true → P) → (eqb n 0 ≡ false → P) → P
zero_or {P = P} n f g = on (eqb n 0) refl
  where
    on : (t : Bool) → eqb n 0 ≡ t → P
    on true e = f e
    on false e = g e

positive : (n : ℕ) → n ≢ 0 → 0 < n
positive n f = omega arith

-- ---- powers of two
pub power_is : (e : ℕ) → e ≤ 15 → is_power (2 ^ e) ≡ true
unfolding is_power
power_is e h =
    let x : get_or (up_from 0 16) e 0 ≡ e = up_at 0 16 e 0 (omega arith) ∙ zero-add e in
    any_has (λ k. eqb (2 ^ e) (2 ^ k)) (up_from 0 16) e 0 (omega (arith, length_up 0 16)) (eq-eqb (2 ^ e) _ (ap (λ (k : ℕ). 2 ^ k) (sym x)))

power_max : (e : ℕ) → e ≤ 15 → 2 ^ e ≤ 32768
power_max e h = pow-le-pow_right {n = 2} (omega arith) {i = e} {j = 15} h

-- ---- a depth that is 0 where its count is
module _ (c d : ℕ) where
  if_none : eqb c 0 ≡ true → depth_if c d ≡ 0
  unfolding depth_if
  if_none e = rw e

  if_some : eqb c 0 ≡ false → depth_if c d ≡ d
  unfolding depth_if
  if_some e = rw e

  if_le : depth_if c d ≤ d
  if_le = zero_or c (λ e. omega (arith, if_none e)) (λ e. omega (arith, if_some e))

  if_rows : c * depth_if c d ≡ c * d
  if_rows =
      zero_or c
      (λ e. let z : c ≡ 0 = eqb-true c 0 e in rw (if_none e, mul-zero c) (sym (ap (λ (n : ℕ). n * d) z ∙ zero-mul d)))
      (λ e. rw (if_some e))

  if_alike : (c ≢ 0 → 0 < d) → unlike c (depth_if c d) ≡ false
  unfolding unlike
  if_alike h = zero_or c (λ e. rw (e, if_none e)) (λ e. rw (e, if_some e, lt-ltb 0 d (h (eqb-false c 0 e))))

-- ---- sizes by their counts and depths: F full memories of depth 2 ^ e, then G of depth P
module _ (u F G e P : ℕ) where
  sizes : Sizes
  sizes = record { unit = u; full = F; full_depth_of = depth_if F (2 ^ e); partial = G; partial_depth = depth_if G P }

  module _ (pos : 0 < u) (small : u ≤ 256) (hard : e ≤ 15) (less : P < 2 ^ e) (some : G ≢ 0 → 0 < P) where
    unit_good : bad_unit sizes ≡ false
    unfolding bad_unit sizes
    unit_good = or_both (ne_eqb u 0 (λ z. absurd (omega arith))) (le-ltb 256 u small)

    power_good : (not (eqb F 0) && not (is_power (depth_if F (2 ^ e)))) ≡ false
    power_good = zero_or F (λ z. rw z) (λ z. rw (z, if_some F (2 ^ e) z, power_is e hard))

    less_good : (not (eqb F 0) && (not (eqb G 0) && leb (depth_if F (2 ^ e)) (depth_if G P))) ≡ false
    less_good = zero_or F (λ z. rw z) (λ z. zero_or G (λ y. rw (z, y)) (λ y. rw (z, y, if_some F (2 ^ e) z, if_some G P y, lt-leb (2 ^ e) P less)))

    depths_good : bad_depths sizes ≡ false
    unfolding bad_depths sizes
    depths_good =
        let p = power_max e hard in
        or_both (if_alike F (2 ^ e) (λ z. omega arith))
        (or_both (if_alike G P some)
        (or_both power_good
        (or_both (le-ltb max_depth (depth_if F (2 ^ e)) (omega (arith, if_le F (2 ^ e))))
        (or_both (le-ltb max_partial (depth_if G P) (omega (arith, if_le G P))) less_good))))

    module _ (cols : (F + G) * u ≤ 32768) (all : (F * 2 ^ e + G * P) * u ≤ 131072) where
      trits_good : size_trits sizes ≤ 131072
      unfolding size_trits sizes
      trits_good = rw (if_rows F (2 ^ e), if_rows G P, mul_comm u (F * 2 ^ e + G * P)) all

      columns_good : size_mems sizes * u ≤ 32768
      unfolding size_mems sizes
      columns_good = cols

      sizes_good : bad_sizes sizes ≡ false
      unfolding bad_sizes sizes
      sizes_good = or_both unit_good (or_both depths_good (or_both (le-ltb max_columns (size_mems sizes * u) columns_good) (le-ltb max_image (size_trits sizes) trits_good)))

-- ---- of a layout
module _ (q : Layout) (pos : 0 < q.unit) (small : q.unit ≤ 256) (hard : q.hard ≤ 15) where
  chunks : full_chunks q ≤ all_chunks q
  unfolding all_chunks
  chunks = zero_or (part_depth_of q) (λ e. rw e (omega arith)) (λ e. rw e (omega arith))

  full_all : full_mems q ≤ all_mems q
  unfolding full_mems all_mems
  full_all =
      ceil_mono (row_len_of q * 2 ^ soft q * full_chunks q) (row_len_of q * 2 ^ soft q * all_chunks q) q.unit pos
      (mul-le-mul {n₁ = row_len_of q * 2 ^ soft q} {m₁ = full_chunks q} {n₂ = row_len_of q * 2 ^ soft q} {m₂ = all_chunks q} (omega arith) chunks)

  -- no partial depth, no partial memories
  none : part_depth_of q ≡ 0 → all_mems q ≡ full_mems q
  unfolding full_mems all_mems all_chunks
  none e = rw (eq-eqb (part_depth_of q) 0 e)

  some : all_mems q - full_mems q ≢ 0 → 0 < part_depth_of q
  some h = positive (part_depth_of q) (λ e. h (omega (arith, none e)))

  less : part_depth_of q < 2 ^ q.hard
  unfolding part_depth_of full_depth_of
  less = mod-lt _ (pow_pos q.hard)

  -- width 0: no memories
  empty_good : eqb q.width 0 ≡ true → bad_sizes (sizes_of q) ≡ false
  unfolding sizes_of full_depth_of sizes
  empty_good e = rw e (sizes_good q.unit 0 0 q.hard (part_depth_of q) pos small hard less (λ z. absurd (z refl)) (omega (arith, zero-mul q.unit)) (omega arith))

  module _ (w : eqb q.width 0 ≡ false) (r : result_too_large q ≡ false) where
    columns_within : (full_mems q + (all_mems q - full_mems q)) * q.unit ≤ 32768
    unfolding result_too_large columns
    columns_within =
        let e : full_mems q + (all_mems q - full_mems q) ≡ all_mems q = omega (arith, full_all) in
        rw e (ltb-false max_columns (all_mems q * q.unit) (or_false (ltb max_columns (all_mems q * q.unit)) _ r).0)

    trits_within : (full_mems q * 2 ^ q.hard + (all_mems q - full_mems q) * part_depth_of q) * q.unit ≤ 131072
    unfolding result_too_large trits mem_start full_depth_of
    trits_within =
        rw (← before_high (full_mems q) (2 ^ q.hard) (part_depth_of q) (all_mems q) full_all)
        (ltb-false max_image (rows_before (full_mems q) (2 ^ q.hard) (part_depth_of q) (all_mems q) * q.unit) (or_false (ltb max_columns (columns q)) _ r).1)

    result_good : bad_sizes (sizes_of q) ≡ false
    unfolding sizes_of full_depth_of sizes
    result_good = rw w (sizes_good q.unit (full_mems q) (all_mems q - full_mems q) q.hard (part_depth_of q) pos small hard less some columns_within trits_within)

  -- and their trits are those of the image
  pub layout-trits : size_trits (sizes_of q) ≡ image_size q
  unfolding size_trits sizes_of image_size trits mem_start full_depth_of
  layout-trits =
      zero_or q.width
      (λ w. rw (w, zero-mul (depth_if 0 (2 ^ q.hard)), zero-mul (depth_if 0 (part_depth_of q)), mul-zero q.unit))
      (λ w. rw (w, if_rows (full_mems q) (2 ^ q.hard), if_rows (all_mems q - full_mems q) (part_depth_of q), before_high (full_mems q) (2 ^ q.hard) (part_depth_of q) (all_mems q) full_all) (mul_comm q.unit _))

  pub layout-sizes : image_too_large q ≡ false → bad_sizes (sizes_of q) ≡ false
  unfolding image_too_large
  layout-sizes r = zero_or q.width empty_good (λ w. result_good w (and_false (not (eqb q.width 0)) (result_too_large q) (not_is_true (eqb q.width 0) w) r))

-- ---- of an accepted swizzle
module _ (next : ℕ) (g : Given) (output : Value) (p : Plan) (e : swizzle_number next g output p ≡ 0) where
  abbrev q : Layout
  q = layout_of g.mem p

  passes : bad_layout q ≡ false
  passes = layout_good next g output p e

  pub swizzle-trits : size_trits (sizes_of q) ≡ image_size q
  swizzle-trits =
      let s = good_small q passes in
      layout-trits q s.unit_pos s.unit_max s.hard_max

  pub swizzle-sizes : bad_sizes (sizes_of q) ≡ false
  swizzle-sizes =
      let s = good_small q passes in
      layout-sizes q s.unit_pos s.unit_max s.hard_max (good q passes).result
