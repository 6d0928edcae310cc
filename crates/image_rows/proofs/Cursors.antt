-- The cursor over a row's places: its index, its step, and how large its numbers are.
use Prim.Native.Nat.{ℕ, zero, suc, ◌+◌, ◌-◌, ◌*◌, ◌/◌, ◌%◌, ◌≤◌, ◌<◌, min}
use mathlib.Core.Path.{◌≡◌, refl, sym, ap, ◌∙◌, subst}
use mathlib.Core.Bool.{Bool}
use native.Mathlib.Omega.{arith}
use native.Mathlib.Numerals.{add-one}
use native.Mathlib.Nat.{add-mul, mul_assoc, mul-le-mul, mul-le-mul_left, div-le_self, div-add-mod', mod-lt, le_trans, lt_of_le_of_lt, add-zero, one-mul, zero-mul}
use lib.Arith.{digits_div, digits_mod}
use borrow.Author.Tests.{lt-ltb, le-ltb}
use Rattle.lists.specs.Choice.{when◌then◌else◌}
use Rattle.lists.proofs.Choice.{cases_le}
use Rattle.rules.specs.Limits.{addr_bits, max_depth, max_row, max_unit}
use Rattle.rules.specs.Geometry.{Layout, Spot, row_len_of, full_depth_of, part_depth_of, full_mems}
use Rattle.rules.specs.Image.{spot_of, column, place_of, depth_at, rows_before, flat_at, flat, index_of}
use Rattle.rules.specs.Beside.Shape.{Small, Located}
use Rattle.rules.proofs.Walks.{walk_le}
use Rattle.rules.proofs.Places.{before_suc, before_low, before_high}
use Rattle.rules.proofs.Extents.{deep_max, part_max}
use Rattle.image_rows.specs.declared.Steps.{Steps}
use Rattle.image_rows.specs.declared.Cursor.{Cursor}
use Rattle.image_rows.specs.Steps.{steps_of, next_of, At, Low, Lows, after, index_from}

-- ---- one more: the quotient and the remainder
split : (c u : ℕ) → c + 1 ≡ c / u * u + (c % u + 1)
split c u = omega (arith, div-add-mod' c u)

in_div : (c u : ℕ) → c % u + 1 < u → (c + 1) / u ≡ c / u
in_div c u h = ap (λ (n : ℕ). n / u) (split c u) ∙ digits_div (c / u) h

in_mod : (c u : ℕ) → c % u + 1 < u → (c + 1) % u ≡ c % u + 1
in_mod c u h = ap (λ (n : ℕ). n % u) (split c u) ∙ digits_mod (c / u) h

round : (c u : ℕ) → 0 < u → u ≤ c % u + 1 → c + 1 ≡ (c / u + 1) * u + 0
round c u pos h = omega (arith, div-add-mod' c u, mod-lt c pos, add-mul (c / u) 1 u, one-mul u)

out_div : (c u : ℕ) → 0 < u → u ≤ c % u + 1 → (c + 1) / u ≡ c / u + 1
out_div c u pos h = ap (λ (n : ℕ). n / u) (round c u pos h) ∙ digits_div (c / u + 1) pos

out_mod : (c u : ℕ) → 0 < u → u ≤ c % u + 1 → (c + 1) % u ≡ 0
out_mod c u pos h = ap (λ (n : ℕ). n % u) (round c u pos h) ∙ digits_mod (c / u + 1) pos

-- ---- the start of a row in a memory
module _ (full H P u r : ℕ) where
  abbrev pub row_start : ℕ → ℕ
  row_start m = (rows_before full H P m + r) * u + 0

  pub start_low : (m : ℕ) → m < full → m * (H * u) + r * u ≡ row_start m
  start_low m l =
      sym (ap (λ (n : ℕ). (n + r) * u + 0) (before_low full H P m l) ∙ omega (arith, add-mul (m * H) r u, mul_assoc m H u))

  pub start_high : (m : ℕ) → full ≤ m → full * (H * u) + (m - full) * (P * u) + r * u ≡ row_start m
  start_high m l =
      sym (ap (λ (n : ℕ). (n + r) * u + 0) (before_high full H P m l)
      ∙ omega (arith, add-mul (full * H + (m - full) * P) r u, add-mul (full * H) ((m - full) * P) u, mul_assoc full H u, mul_assoc (m - full) P u))

  pub start_min : (m : ℕ) → min m full * (H * u) + (m - min m full) * (P * u) + r * u ≡ row_start m
  start_min m =
      cases_le full m
      (λ l.
      let e : min m full ≡ full = omega arith in
      ap (λ (n : ℕ). n * (H * u) + (m - n) * (P * u) + r * u) e ∙ start_high m l)
      (λ l.
      let e : min m full ≡ m = omega arith in
      let z : m - m ≡ 0 = omega arith in
      let n : (m - m) * (P * u) ≡ 0 = ap (λ (n : ℕ). n * (P * u)) z ∙ zero-mul (P * u) in
      ap (λ (n : ℕ). n * (H * u) + (m - n) * (P * u) + r * u) e ∙ ap (λ (n : ℕ). m * (H * u) + n + r * u) n ∙ ap (λ (n : ℕ). n + r * u) (add-zero (m * (H * u))) ∙ start_low m l)

  next_start : (m : ℕ) → row_start (m + 1) ≡ row_start m + depth_at full H P m * u
  next_start m =
      ap (λ (n : ℕ). (n + r) * u + 0) (ap (rows_before full H P) (add-one m) ∙ before_suc full H P m)
      ∙ omega (arith, add-mul (rows_before full H P m + depth_at full H P m) r u, add-mul (rows_before full H P m) (depth_at full H P m) u, add-mul (rows_before full H P m) r u)

  pub next_full : (m : ℕ) → m < full → row_start m + H * u ≡ row_start (m + 1)
  unfolding depth_at
  next_full m l = sym (next_start m ∙ ap (λ (t : Bool). row_start m + (when t then H else P) * u) (lt-ltb m full l))

  pub next_part : (m : ℕ) → full ≤ m → row_start m + P * u ≡ row_start (m + 1)
  unfolding depth_at
  next_part m l = sym (next_start m ∙ ap (λ (t : Bool). row_start m + (when t then H else P) * u) (le-ltb m full l))

before_max : (full H P m : ℕ) → H ≤ 1048576 → P ≤ 1048576 → rows_before full H P m ≤ m * 1048576
unfolding rows_before
before_max full H P m h k = omega (arith, mul-le-mul_left (min m full) h, mul-le-mul_left (m - full) k)

pub start_max : (full H P u r m : ℕ) → H ≤ 1048576 → P ≤ 1048576 → u ≤ max_unit → r ≤ max_depth → m ≤ 1073741824 → row_start full H P u r m ≤ 2251799813685248 * max_unit
start_max full H P u r m h k l n o = omega (arith, mul-le-mul {n₂ = 2251799813685248} {m₂ = max_unit} (sums (before_max full H P m h k) n o) l)
  where
    sums : {x : ℕ} → x ≤ m * 1048576 → r ≤ max_depth → m ≤ 1073741824 → x + r ≤ 2251799813685248
    sums a b c = omega arith

module _ (q : Layout) (row : ℕ) where
  column_next : (i : ℕ) → column q row (i + 1) ≡ column q row i + 1
  unfolding column
  column_next i = omega arith

  -- the index of the cursor's place
  pub at_index : (i : ℕ) (c : Cursor) → At q row i c → c.start + c.bit ≡ index_of q row i
  unfolding index_of flat flat_at
  at_index i c h = (λ k. h.start_is k + h.bit_is k) ∙ ap (λ (n : ℕ). n + (place_of q row i).bit) (add-zero _)

  -- a cursor with these numbers
  pub at_made : (i : ℕ) (c : Cursor) → c.memory ≡ column q row i / q.unit → c.bit ≡ column q row i % q.unit
      → c.start ≡ row_start (full_mems q) (full_depth_of q) (part_depth_of q) q.unit (spot_of q row).row (column q row i / q.unit) → At q row i c
  unfolding place_of flat_at
  at_made i c m b s = record { memory_is = m; bit_is = b; start_is = s }

  module _ (i : ℕ) (c : Cursor) (h : At q row i c) where
    mem : c.memory ≡ column q row i / q.unit
    unfolding place_of
    mem = h.memory_is

    bit : c.bit ≡ column q row i % q.unit
    unfolding place_of
    bit = h.bit_is

    start : c.start ≡ row_start (full_mems q) (full_depth_of q) (part_depth_of q) q.unit (spot_of q row).row (column q row i / q.unit)
    unfolding place_of flat_at
    start = h.start_is

    start_mem : c.start ≡ row_start (full_mems q) (full_depth_of q) (part_depth_of q) q.unit (spot_of q row).row c.memory
    start_mem = start ∙ ap (row_start (full_mems q) (full_depth_of q) (part_depth_of q) q.unit (spot_of q row).row) (sym mem)

    inner : c.bit + 1 < q.unit → At q row (i + 1) (record { memory = c.memory; bit = c.bit + 1; start = c.start })
    inner l =
        let k : column q row i % q.unit + 1 < q.unit = omega (arith, bit) in
        let d : column q row (i + 1) / q.unit ≡ column q row i / q.unit = ap (λ (n : ℕ). n / q.unit) (column_next i) ∙ in_div (column q row i) q.unit k in
        at_made (i + 1) _ (mem ∙ sym d) (ap (λ (n : ℕ). n + 1) bit ∙ sym (ap (λ (n : ℕ). n % q.unit) (column_next i) ∙ in_mod (column q row i) q.unit k))
        (start ∙ ap (row_start (full_mems q) (full_depth_of q) (part_depth_of q) q.unit (spot_of q row).row) (sym d))

    outer : (s : ℕ) → 0 < q.unit → q.unit ≤ c.bit + 1
        → s ≡ row_start (full_mems q) (full_depth_of q) (part_depth_of q) q.unit (spot_of q row).row (c.memory + 1)
        → At q row (i + 1) (record { memory = c.memory + 1; bit = 0; start = s })
    outer s pos l e =
        let k : q.unit ≤ column q row i % q.unit + 1 = omega (arith, bit) in
        let d : c.memory + 1 ≡ column q row (i + 1) / q.unit =
        ap (λ (n : ℕ). n + 1) mem ∙ sym (ap (λ (n : ℕ). n / q.unit) (column_next i) ∙ out_div (column q row i) q.unit pos k) in
        at_made (i + 1) _ d (sym (ap (λ (n : ℕ). n % q.unit) (column_next i) ∙ out_mod (column q row i) q.unit pos k))
        (e ∙ ap (row_start (full_mems q) (full_depth_of q) (part_depth_of q) q.unit (spot_of q row).row) d)

    -- the step
    pub at_next : 0 < q.unit → At q row (i + 1) (next_of (steps_of q) c)
    at_next pos =
        cases_le q.unit (c.bit + 1)
        (λ l. cases_le (full_mems q) c.memory
        (λ m. subst (At q row (i + 1)) (sym (last l m)) (outer _ pos l (ap (λ (n : ℕ). n + part_depth_of q * q.unit) start_mem ∙ next_part _ _ _ _ _ c.memory m)))
        (λ m. subst (At q row (i + 1)) (sym (middle l m)) (outer _ pos l (ap (λ (n : ℕ). n + full_depth_of q * q.unit) start_mem ∙ next_full _ _ _ _ _ c.memory m))))
        (λ l. subst (At q row (i + 1)) (sym (same l)) (inner l))
      where
        same : c.bit + 1 < q.unit → next_of (steps_of q) c ≡ record { memory = c.memory; bit = c.bit + 1; start = c.start }
        same l = rw (lt-ltb (c.bit + 1) q.unit l)

        middle : q.unit ≤ c.bit + 1 → c.memory < full_mems q → next_of (steps_of q) c ≡ record { memory = c.memory + 1; bit = 0; start = c.start + full_depth_of q * q.unit }
        middle l m = rw (le-ltb (c.bit + 1) q.unit l, lt-ltb c.memory (full_mems q) m)

        last : q.unit ≤ c.bit + 1 → full_mems q ≤ c.memory → next_of (steps_of q) c ≡ record { memory = c.memory + 1; bit = 0; start = c.start + part_depth_of q * q.unit }
        last l m = rw (le-ltb (c.bit + 1) q.unit l, le-ltb c.memory (full_mems q) m)

-- ---- how large
module _ (q : Layout) (s : Small q.depth q.width (row_len_of q) q.unit q.hard) (row : ℕ) (l : row < q.depth) where
  pub chunk_max : (spot_of q row).chunk ≤ max_depth
  unfolding spot_of
  chunk_max = omega (arith, (walk_le addr_bits q.soft_mask q.hard row).0, s.depth_max)

  pub row_max : (spot_of q row).row ≤ max_depth
  unfolding spot_of
  row_max = omega (arith, (walk_le addr_bits q.soft_mask q.hard row).1, s.depth_max)

  pub first_max : (spot_of q row).chunk * row_len_of q ≤ max_depth * max_row
  first_max = mul-le-mul {n₂ = max_depth} {m₂ = max_row} chunk_max s.len_max

  pub column_max : (i : ℕ) → i ≤ row_len_of q → column q row i ≤ 1073741824
  unfolding column
  column_max i h = omega (arith, first_max, s.len_max)

  pub memory_max : (i : ℕ) → i ≤ row_len_of q → column q row i / q.unit ≤ 1073741824
  memory_max i h = le_trans (div-le_self (column q row i) q.unit) (column_max i h)

  pub step_max : (d : ℕ) → d ≤ 1048576 → d * q.unit ≤ 1048576 * max_unit
  step_max d h = mul-le-mul {n₂ = 1048576} {m₂ = max_unit} h s.unit_max

  pub at_low : (i : ℕ) (c : Cursor) → At q row i c → i ≤ row_len_of q → Low c (steps_of q)
  at_low i c h k =
      let m = memory_max i k in
      record {
        memory_max = omega (arith, mem q row i c h, m);
        bit_under = omega (arith, bit q row i c h, mod-lt (column q row i) s.unit_pos);
        unit_max = omega (arith, s.unit_max);
        start_max = lt_of_le_of_lt (subst (λ (n : ℕ). n ≤ 2251799813685248 * max_unit) (sym (start q row i c h)) (start_max _ _ _ _ _ _ (deep_max q s) (part_max q s) s.unit_max row_max m)) (omega arith);
        full_max = lt_of_le_of_lt (step_max (full_depth_of q) (deep_max q s)) (omega arith);
        part_max = lt_of_le_of_lt (step_max (part_depth_of q) (part_max q s)) (omega arith);
      }

-- ---- the cursors of a row, from the one at its first entry on
pub after_suc : (g : Steps) (c : Cursor) (i : ℕ) → next_of g (after g c i) ≡ after g c (i + 1)
unfolding after
after_suc g c i = sym (ap (after g c) (add-one i))

module _ (q : Layout) (row : ℕ) (pos : 0 < q.unit) (c : Cursor) (h : At q row 0 c) where
  pub at_after : (i : ℕ) → At q row i (after (steps_of q) c i)
  unfolding after
  at_after zero = h
  at_after (suc i) = subst (λ (n : ℕ). At q row n (next_of (steps_of q) (after (steps_of q) c i))) (add-one i) (at_next q row i (after (steps_of q) c i) (at_after i) pos)

  pub index_from_lem : index_from (steps_of q) c ≡ index_of q row
  index_from_lem = λ k i. at_index q row i (after (steps_of q) c i) (at_after i) k

pub all_low : (q : Layout) → Small q.depth q.width (row_len_of q) q.unit q.hard → (row : ℕ) → row < q.depth → (c : Cursor) → At q row 0 c → Lows c (steps_of q) (row_len_of q)
all_low q s row l c h = record { each = λ i k. at_low q s row l i (after (steps_of q) c i) (at_after q row s.unit_pos c h i) k }

pub after_zero : (g : Steps) (c : Cursor) → c ≡ after g c 0
unfolding after
after_zero g c = refl

-- ---- the cursor as the code makes it
pub record Held (q : Layout) (g : Steps) (row chunk to : ℕ) : Type 0 where
  pub steps : g ≡ steps_of q
  pub chunk_is : chunk ≡ (spot_of q row).chunk
  pub to_is : to ≡ (spot_of q row).row

-- from the row's line, whose numbers the code holds in wider words
pub held_at : (q : Layout) (g : Steps) (row : ℕ) (s : Spot) (chunk to : ℕ) → g ≡ steps_of q → s ≡ spot_of q row → chunk ≡ s.chunk → to ≡ s.row → Held q g row chunk to
held_at q g row s chunk to e f a b = record { steps = e; chunk_is = a ∙ ap (λ (x : Spot). x.chunk) f; to_is = b ∙ ap (λ (x : Spot). x.row) f }

module _ (q : Layout) (s : Small q.depth q.width (row_len_of q) q.unit q.hard) (g : Steps) (row entry : ℕ) (l : row < q.depth) (k : entry ≤ row_len_of q)
    (chunk to : ℕ) (h : Held q g row chunk to) where
  unit_is : g.unit ≡ q.unit
  unit_is = ap (λ (g : Steps). g.unit) h.steps

  full_is : g.full ≡ full_mems q
  full_is = ap (λ (g : Steps). g.full) h.steps

  full_step_is : g.full_step ≡ full_depth_of q * q.unit
  full_step_is = ap (λ (g : Steps). g.full_step) h.steps

  part-step_is : g.part_step ≡ part_depth_of q * q.unit
  part-step_is = ap (λ (g : Steps). g.part_step) h.steps

  abbrev code_column : ℕ
  code_column = chunk * row_len_of q + entry

  pub product_fits : chunk * row_len_of q ≤ max_depth * max_row
  product_fits = subst (λ (n : ℕ). n * row_len_of q ≤ max_depth * max_row) (sym h.chunk_is) (first_max q s row l)

  column_is : code_column ≡ column q row entry
  unfolding column
  column_is = λ i. h.chunk_is i * row_len_of q + entry

  pub column_fits : code_column ≤ 1073741824
  column_fits = subst (λ (n : ℕ). n ≤ 1073741824) (sym column_is) (column_max q s row l entry k)

  pub unit_pos : 0 < g.unit
  unit_pos = subst (λ (n : ℕ). 0 < n) (sym unit_is) s.unit_pos

  mem_is : code_column / g.unit ≡ column q row entry / q.unit
  mem_is = λ i. column_is i / unit_is i

  mem_fits : code_column / g.unit ≤ 1073741824
  mem_fits = le_trans (div-le_self code_column g.unit) column_fits

  pub above_fits : to * g.unit ≤ max_depth * max_unit
  above_fits = subst (λ (n : ℕ). n ≤ max_depth * max_unit) (sym (λ i. h.to_is i * unit_is i)) (mul-le-mul {n₂ = max_depth} {m₂ = max_unit} (row_max q s row l) s.unit_max)

  full_step_fits : g.full_step ≤ 1048576 * max_unit
  full_step_fits = subst (λ (n : ℕ). n ≤ 1048576 * max_unit) (sym full_step_is) (step_max q s row l (full_depth_of q) (deep_max q s))

  part-step_fits : g.part_step ≤ 1048576 * max_unit
  part-step_fits = subst (λ (n : ℕ). n ≤ 1048576 * max_unit) (sym part-step_is) (step_max q s row l (part_depth_of q) (part_max q s))

  bit_is : code_column % g.unit ≡ column q row entry % q.unit
  bit_is = λ i. column_is i % unit_is i

  -- `full` of the memories before the cursor's are full ones
  module _ (full : ℕ) (f : full ≡ min (code_column / g.unit) g.full) where
    pub full_fits : full * g.full_step ≤ 1073741824 * (1048576 * max_unit)
    full_fits = mul-le-mul {n₂ = 1073741824} {m₂ = 1048576 * max_unit} (omega (arith, mem_fits)) full_step_fits

    pub over_fits : (code_column / g.unit - full) * g.part_step ≤ 1073741824 * (1048576 * max_unit)
    over_fits = mul-le-mul {n₂ = 1073741824} {m₂ = 1048576 * max_unit} (omega (arith, mem_fits)) part-step_fits

    min_is : full ≡ min (column q row entry / q.unit) (full_mems q)
    min_is = f ∙ λ i. min (mem_is i) (full_is i)

    pub made : At q row entry (record { memory = code_column / g.unit; bit = code_column % g.unit; start = full * g.full_step + (code_column / g.unit - full) * g.part_step + to * g.unit })
    made =
        at_made q row entry _ mem_is bit_is
        ((λ i. min_is i * full_step_is i + (mem_is i - min_is i) * part-step_is i + h.to_is i * unit_is i)
        ∙ start_min (full_mems q) (full_depth_of q) (part_depth_of q) q.unit (spot_of q row).row _)

-- ---- a row written and a row taken by the cursors
module _ (q : Layout) (s : Small q.depth q.width (row_len_of q) q.unit q.hard) (g : Steps) (e : g ≡ steps_of q) (row : ℕ) (c : Cursor) (h : At q row 0 c) where
  pub lows : row < q.depth → Lows c g (row_len_of q)
  lows l = subst (λ (g : Steps). Lows c g (row_len_of q)) (sym e) (all_low q s row l c h)

  pub indexes : index_from g c ≡ index_of q row
  indexes = ap (λ (g : Steps). index_from g c) e ∙ index_from_lem q row s.unit_pos c h

-- ---- the place of an entry
pub place_is : (q : Layout) (row i m : ℕ) (c : Cursor) → At q row i c → m ≡ (spot_of q row).row
    → ◌≡◌ {A = Located} (record { place = record { memory = c.memory; row = m; bit = c.bit }; index = c.start + c.bit }) (record { place = place_of q row i; index = index_of q row i })
unfolding place_of
place_is q row i m c h e = λ k. record { place = record { memory = mem q row i c h k; row = e k; bit = bit q row i c h k }; index = at_index q row i c h k }
