-- Each memory of a fallback's split is one row of the memory's width.
use mathlib.Core.Path.{◌≡◌, refl, sym, ap, ◌∙◌, subst}
use mathlib.Core.Logic.{◌≢◌, ⊎_elim}
use Prim.Native.Nat.{ℕ, zero, suc, ◌+◌, ◌-◌, ◌*◌, ◌<◌, ◌≤◌, min}
use native.Mathlib.Nat.{zero-add, mul-one, mul-zero, suc-mul, mul-le-mul_right, eq-zero-or-pos}
use native.Mathlib.Omega.{arith}
use mathlib.Core.Bool.{false}
use mathlib.Core.List.{List, [], map}
use lib.ListN.{length, get_or, length-map}
use lib.Dec.{eqb}
use borrow.Author.Tests.{eq-eqb, ne_eqb}
use Rattle.lists.specs.Lists.{up_from}
use Rattle.lists.specs.Choice.{when◌then◌else◌}
use Rattle.lists.proofs.Choice.{else_zero, if_true, if_false}
use Rattle.lists.proofs.Parts.{length_part}
use Rattle.lists.proofs.UpFrom.{length_up, get_d_up}
use Rattle.rules.specs.Limits.{addr_bits}
use Rattle.rules.specs.Value.{Value}
use Rattle.rules.specs.Cell.{WritePort, ReadPort, Mem, Plan}
use Rattle.rules.specs.Conditions.{bad_depth, bad_output_len, bad_value}
use Rattle.rules.specs.Log.{Trace, ◌>>=◌, ◌>>◌, done}
use Rattle.rules.specs.Ports.{Driving}
use Rattle.rules.specs.Geometry.{Layout, layout_of, all_mems}
use Rattle.rules.specs.Image.{rows_before, mem_start, trits, image_size, layout, image_of}
use Rattle.rules.specs.Swizzle.{WideWrite, swizzle_writes, WideRead, swizzle_reads, result_mem, swizzle_rows, swizzle_empty, swizzle}
use Rattle.rules.specs.Fallback.{max_wide_log2, fallback_plan}
use Rattle.rules.specs.Refusals.{driving_number, lower_fallback_number}
use Rattle.rules.proofs.Demand.{length_layout}
use Rattle.net_memory.specs.declared.Memory.{Memory}
use Rattle.net_memory.specs.Given.{given_of}
use Rattle.net_memory.specs.View.{memory_of}
use Rattle.net_check.proofs.Accept.{Valid, valid}
use Rattle.port_unmap_all.specs.All.{all_bare}
use Rattle.fallback_plan.proofs.Logs.{most_low}
use Rattle.fallback_plan.proofs.Numbers.{depth_one, part_none, mems_are, full_are, trits_are}
use Rattle.fallback_counts.specs.Counts.{OneRow, AllRows}
use Rattle.fallback_masks.proofs.Bare.{bare_width, bare_depth, bare-most, bare_divides}
use Rattle.fallback_masks.proofs.Wide.{AllWrites, AllReads, whole_writes, whole_reads, writes_wide, reads_long}

-- ---- a memory whose depth the largest wide log divides, split by the plan of a fallback
module _ (b : Mem) where
  abbrev pub P : Plan
  P = fallback_plan b

  abbrev pub q : Layout
  q = layout_of b P

  unit_is : q.unit ≡ b.width
  unfolding layout_of fallback_plan
  unit_is = refl

  width_is : q.width ≡ b.width
  unfolding layout_of
  width_is = refl

  writes_none : P.write_wide ≡ map (λ (p : WritePort). zero) b.writes
  unfolding fallback_plan
  writes_none = refl

  reads_none : P.read_wide_of ≡ map (λ (p : ReadPort). zero) b.reads
  unfolding fallback_plan
  reads_none = refl

  -- no memories
  pub flat_none : (outs : Value) (n : ℕ) → b.width ≡ 0 → (swizzle b outs P n).value ≡ []
  unfolding swizzle done
  flat_none outs n e = ap (λ (t : Trace (List Driving)). (t n).value) (if_true (eqb b.width 0) (done []) _ (eq-eqb b.width 0 e))

  empty_none : (outs : Value) (n : ℕ) → (swizzle_empty b outs n).value ≡ []
  unfolding swizzle_empty ◌>>=◌ ◌>>◌ done
  empty_none outs n = refl

  swizzle_wide : (outs : Value) → b.width ≢ 0 → swizzle b outs P ≡ (when eqb b.depth 0 then swizzle_empty b outs else swizzle_rows b outs P)
  unfolding swizzle
  swizzle_wide outs w = if_false (eqb b.width 0) (done []) _ (ne_eqb b.width 0 w)

  pub shallow_none : (outs : Value) (n : ℕ) → b.width ≢ 0 → b.depth ≡ 0 → (swizzle b outs P n).value ≡ []
  shallow_none outs n w e =
      ap (λ (t : Trace (List Driving)). (t n).value) (swizzle_wide outs w ∙ if_true (eqb b.depth 0) (swizzle_empty b outs) _ (eq-eqb b.depth 0 e)) ∙ empty_none outs n

  -- the wide ports, and the memories by them
  abbrev pub ws : ℕ → List WideWrite
  ws n = (swizzle_writes b q b.writes P.write_wide n).value

  abbrev pub rs : Value → ℕ → List WideRead
  rs outs n = (swizzle_reads b q b.reads P.read_wide_of outs (swizzle_writes b q b.writes P.write_wide n).next).value

  abbrev pub row : Value → ℕ → ℕ → Driving
  row outs n i = result_mem q (layout q b.init) (ws n) (rs outs n) i

  rows_value : (outs : Value) (n : ℕ) → (swizzle_rows b outs P n).value ≡ map (row outs n) (up_from 0 (all_mems q))
  unfolding swizzle_rows ◌>>=◌ done
  rows_value outs n = refl

  pub writes_whole : (n : ℕ) → AllWrites q (ws n)
  writes_whole n = subst (λ (l : List ℕ). AllWrites q (swizzle_writes b q b.writes l n).value) (sym writes_none) (whole_writes b q b.writes n)

  pub reads_whole : (outs : Value) (n : ℕ) → AllReads q (rs outs n)
  reads_whole outs n =
      subst (λ (l : List ℕ). AllReads q (swizzle_reads b q b.reads l outs (swizzle_writes b q b.writes P.write_wide n).next).value) (sym reads_none) (whole_reads b q b.reads outs _)

  module _ (h : max_wide_log2 b ≤ addr_bits) (e : bad_depth b ≡ false) (w : b.width ≢ 0) where
    pub all_mems_lem : all_mems q ≡ b.depth
    all_mems_lem = mems_are b h e w

    -- ---- the trits of row i
    starts : (i : ℕ) → i ≤ b.depth → mem_start q i ≡ i * q.unit
    unfolding mem_start rows_before
    starts i l =
        (λ j. (min i (full_are b h e w j) * depth_one b h e j + (i - full_are b h e w j) * part_none b h e j) * q.unit)
        ∙ ap (λ (k : ℕ). k * q.unit) (only i b.depth l)
      where
        only : (i d : ℕ) → i ≤ d → min i d * 1 + (i - d) * 0 ≡ i
        only i d l = omega (arith, mul-one (min i d), mul-zero (i - d))

    image_size_lem : image_size q ≡ trits q
    unfolding image_size
    image_size_lem = if_false (eqb q.width 0) 0 (trits q) (ne_eqb q.width 0 (λ z. w (sym width_is ∙ z)))

    image_long : length (layout q b.init) ≡ b.depth * q.unit
    image_long = length_layout q b.init ∙ image_size_lem ∙ trits_are b h e w ∙ ap (λ (k : ℕ). b.depth * k) (sym unit_is)

    init_long : (i : ℕ) → i < b.depth → length (image_of q (layout q b.init) i) ≡ q.unit
    unfolding image_of
    init_long i l =
        let a = starts i (omega (arith, l)) in
        let c = starts (suc i) l in
        let r : suc i * q.unit ≤ b.depth * q.unit = mul-le-mul_right q.unit l in
        let d : mem_start q (suc i) - mem_start q i ≡ q.unit = omega (arith, a, c, suc-mul i q.unit) in
        length_part (mem_start q i) (mem_start q (suc i) - mem_start q i) (layout q b.init) (omega (arith, a, d, r, image_long, suc-mul i q.unit)) ∙ d

    -- ---- one row
    pub one_row : (outs : Value) (n i : ℕ) → i < b.depth → OneRow (row outs n i)
    unfolding result_mem
    one_row outs n i l =
        let g : i < all_mems q = omega (arith, l, all_mems_lem) in
        record { writes = writes_wide q i g (ws n) (writes_whole n); init = init_long i l; outputs = reads_long q i g (rs outs n) (reads_whole outs n) }

    rows_from_lem : (outs : Value) (n a k : ℕ) → a + k ≤ b.depth → AllRows (map (row outs n) (up_from a k))
    unfolding AllRows
    rows_from_lem outs n a zero l = tt
    rows_from_lem outs n a (suc k) l = (one_row outs n a (omega arith), rows_from_lem outs n (suc a) k (omega arith))

    -- ---- the memories, in all cases but width 0
    abbrev pub rows : Value → ℕ → List Driving
    rows outs n = map (row outs n) (up_from 0 b.depth)

    rows_deep : (outs : Value) (n : ℕ) → b.depth ≢ 0 → (swizzle b outs P n).value ≡ rows outs n
    rows_deep outs n d =
        ap (λ (t : Trace (List Driving)). (t n).value) (swizzle_wide outs w ∙ if_false (eqb b.depth 0) _ (swizzle_rows b outs P) (ne_eqb b.depth 0 d))
        ∙ rows_value outs n ∙ ap (λ (k : ℕ). map (row outs n) (up_from 0 k)) all_mems_lem

    pub rows_are : (outs : Value) (n : ℕ) → (swizzle b outs P n).value ≡ rows outs n
    rows_are outs n =
        ⊎_elim (λ z. shallow_none outs n w z ∙ ap (λ (k : ℕ). map (row outs n) (up_from 0 k)) (sym z)) (λ p. rows_deep outs n (λ z. omega (arith, p, z))) (eq-zero-or-pos b.depth)

    pub all_wide : (outs : Value) (n : ℕ) → AllRows (swizzle b outs P n).value
    all_wide outs n = subst AllRows (sym (rows_are outs n)) (rows_from_lem outs n 0 b.depth (omega (arith, zero-add b.depth)))

    pub row_width : (outs : Value) (n i : ℕ) → (row outs n i).memory.width ≡ b.width
    unfolding result_mem
    row_width outs n i = unit_is

    pub count_rows : (outs : Value) (n : ℕ) → length (swizzle b outs P n).value ≡ b.depth
    count_rows outs n = ap length (rows_are outs n) ∙ length-map (up_from 0 b.depth) (row outs n) ∙ length_up 0 b.depth

    pub width_at : (outs : Value) (n i : ℕ) (d : Driving) → i < length (swizzle b outs P n).value → (get_or (swizzle b outs P n).value i d).memory.width ≡ b.width
    width_at outs n i d l =
        ap (λ (ds : List Driving). (get_or ds i d).memory.width) (rows_are outs n)
        ∙ ap (λ (x : Driving). x.memory.width) (get_d_up (row outs n) 0 b.depth i d (omega (arith, l, count_rows outs n))) ∙ row_width outs n (0 + i)

-- ---- a memory that no number refuses
module _ (next : ℕ) (m : Memory) (nets trits output : List ℕ) (z : lower_fallback_number next (given_of m nets trits) output ≡ 0) where
  abbrev pub M : Mem
  M = memory_of m nets trits

  abbrev pub B : Mem
  B = all_bare M

  driving_zero : driving_number false next (given_of m nets trits) output ≡ 0
  unfolding lower_fallback_number
  driving_zero = (else_zero (driving_number false next (given_of m nets trits) output) _ z).0

  pub good : Valid false (bad_output_len M output) (bad_value next output) next m nets trits
  unfolding driving_number
  good = valid false (bad_output_len M output) (bad_value next output) next m nets trits driving_zero

  pub most : max_wide_log2 B ≤ addr_bits
  most = omega (arith, bare-most M, most_low m nets trits)

  pub divided : bad_depth B ≡ false
  divided = bare_divides M ∙ good.depth_not

  no_rows : AllRows []
  unfolding AllRows
  no_rows = tt

  -- each memory is one row, whatever the outputs and the first net are
  pub all_rows : (outs : Value) (n : ℕ) → AllRows (swizzle B outs (fallback_plan B) n).value
  all_rows outs n = ⊎_elim (λ e. subst AllRows (sym (flat_none B outs n e)) no_rows) (λ p. all_wide B most divided (λ e. omega (arith, p, e)) outs n) (eq-zero-or-pos B.width)

  -- as wide as the memory, and as many as it has rows
  pub row_widths : (outs : Value) (n i : ℕ) (d : Driving) → i < length (swizzle B outs (fallback_plan B) n).value → (get_or (swizzle B outs (fallback_plan B) n).value i d).memory.width ≡ M.width
  row_widths outs n i d l =
      ⊎_elim (λ e. absurd (omega (arith, l, ap length (flat_none B outs n e)))) (λ p. width_at B most divided (λ e. omega (arith, p, e)) outs n i d l ∙ bare_width M) (eq-zero-or-pos B.width)

  pub row_count : (outs : Value) (n : ℕ) → M.width ≢ 0 → length (swizzle B outs (fallback_plan B) n).value ≡ M.depth
  row_count outs n w = count_rows B most divided (λ e. w (sym (bare_width M) ∙ e)) outs n ∙ bare_depth M

  pub row_none : (outs : Value) (n : ℕ) → M.width ≡ 0 → (swizzle B outs (fallback_plan B) n).value ≡ []
  row_none outs n e = flat_none B outs n (bare_width M ∙ e)
