-- The numbers of the call.
use mathlib.Core.Path.{◌≡◌, refl, sym, ap, ◌∙◌}
use native.Mathlib.Omega.{arith}
use Prim.Native.Nat.{ℕ, ◌+◌, ◌-◌, ◌<◌, ◌≤◌}
use mathlib.Core.Bool.{true, false, ◌||◌}
use lib.Dec.{eqb, ltb}
use borrow.Author.Tests.{ltb-false}
use Rattle.lists.specs.Lists.{any, pairs}
use Rattle.lists.proofs.Choice.{else_first, else_zero, or_false, hit, miss}
use Rattle.lists.proofs.All.{any_at}
use Rattle.rules.specs.Limits.{max_wide, max_row, max_unit, max_hard, addr_bits}
use Rattle.rules.specs.Numbers.{bits_for}
use Rattle.rules.specs.Geometry.{Layout, layout_of, chunk_mux_bits, soft, soft_bits, mux_bits, write_mux_bits, read_mux_bits}
use Rattle.rules.specs.Conditions.{plan_too_large, long_list, bad_writes, bad_reads, bad_port}
use Rattle.rules.specs.Cell.{Mem, Plan, write_wide_log2, read_wide_log2, read_at_of}
use Rattle.rules.specs.declared.numbers.Refusal.{Refusal}
use Rattle.rules.specs.Refusal.{number}
use Rattle.rules.proofs.Answers.{else_err, else_ok}
use Rattle.rules.proofs.Walks.{tops_le}
use Rattle.net_check.proofs.Accept.{Valid}
use Rattle.image_geometry.specs.View.{layout_by}
use Rattle.swizzle_plan.specs.declared.MemorySwizzle.{MemorySwizzle}
use Rattle.swizzle_plan.specs.Calls.{plan_of, params_by}
use Rattle.swizzle_plan.proofs.Planned.{same_layout, planned_valid}
use Rattle.swizzle_plan.proofs.Wides.{map_first}
use Rattle.swizzle_plan.specs.Numbers.{write_logs, read_logs}
use mathlib.Core.List.{List, map}
use lib.ListN.{length, get_or}
use Rattle.net_memory.specs.declared.Memory.{Memory}
use Rattle.net_memory.specs.View.{memory_of}
use Rattle.rules.specs.Refusals.{planned_number, wide_number, swizzle_mux_bits_refusal}
use Rattle.net_memory.specs.Given.{given_of}

-- ---- the number of the call
module _ (m : Memory) (nets trits ports : List ℕ) (p : Plan) where
  abbrev v : Mem
  v = memory_of m nets trits

  abbrev first : ℕ
  first = planned_number (long_list ports) (given_of m nets trits) p

  pub planned_err : (e : Refusal) → number e ≡ planned_number (ltb 8 (length ports)) (given_of m nets trits) p → number e ≡ swizzle_mux_bits_refusal (given_of m nets trits) ports p
  unfolding swizzle_mux_bits_refusal long_list
  planned_err e h = else_err e first _ h

  module _ (z : 0 ≡ planned_number (ltb 8 (length ports)) (given_of m nets trits) p) where
    pub by_nine : bad_writes (memory_of m nets trits) p || bad_reads (memory_of m nets trits) ports p ≡ true → 9 ≡ swizzle_mux_bits_refusal (given_of m nets trits) ports p
    unfolding swizzle_mux_bits_refusal wide_number long_list
    by_nine e = else_ok first _ 9 z (sym (else_first (wide_number v ports p) _ (λ q. absurd (omega (arith, hit 9 0 e, q))) ∙ sym (hit 9 0 e)))

    module _ (e : bad_writes (memory_of m nets trits) p || bad_reads (memory_of m nets trits) ports p ≡ false) where
      pub by_port : any (bad_port (memory_of m nets trits)) ports ≡ true → 15 ≡ swizzle_mux_bits_refusal (given_of m nets trits) ports p
      unfolding swizzle_mux_bits_refusal wide_number long_list
      by_port f = else_ok first _ 15 z (else_ok (wide_number v ports p) _ 15 (miss 9 0 0 e refl) (hit 15 0 f))

      pub by_none : any (bad_port (memory_of m nets trits)) ports ≡ false → 0 ≡ swizzle_mux_bits_refusal (given_of m nets trits) ports p
      unfolding swizzle_mux_bits_refusal wide_number long_list
      by_none f = else_ok first _ 0 z (else_ok (wide_number v ports p) _ 0 (miss 9 0 0 e refl) (miss 15 0 0 f refl))

  pub mux_planned : 0 ≡ swizzle_mux_bits_refusal (given_of m nets trits) ports p → first ≡ 0
  unfolding swizzle_mux_bits_refusal
  mux_planned e = (else_zero first _ (sym e)).0

pub few : (ports : List ℕ) → long_list ports ≡ false → length ports ≤ 8
unfolding long_list
few ports e = ltb-false 8 (length ports) e

-- ---- where nothing refuses
module _ (m : Memory) (nets trits ports : List ℕ) (s : MemorySwizzle) (es ws rs : List ℕ) (z : planned_number (long_list ports) (given_of m nets trits) (plan_of s es ws rs) ≡ 0) where
  ok : Valid (plan_too_large (plan_of s es ws rs) || long_list ports) false false 16777216 m nets trits
  ok = planned_valid m nets trits s es ws rs (long_list ports) z

  pub ports_few : length ports ≤ 8
  ports_few = few ports (or_false (plan_too_large (plan_of s es ws rs)) (long_list ports) ok.one_not).1

  wide_not : (any (ltb max_wide) ws ≡ false) × (any (ltb max_wide) rs ≡ false)
  unfolding plan_too_large
  wide_not =
      let d = (or_false (plan_too_large (plan_of s es ws rs)) (long_list ports) ok.one_not).0 in
      let f = or_false (ltb max_row (length es)) _ d in
      let g = or_false (eqb s.data_width_unit 0) _ f.1 in
      let h = or_false (ltb max_unit s.data_width_unit) _ g.1 in
      let i = or_false (ltb max_hard s.hard_addr_bits) _ h.1 in
      let w = or_false (any (ltb max_wide) ws) _ i.1 in
      (w.0, (or_false (any (ltb max_wide) rs) _ w.1).0)

  pub writes_small : (j : ℕ) → j < length ws → get_or ws j 0 ≤ 4
  writes_small j h = ltb-false 4 (get_or ws j 0) (any_at (ltb max_wide) ws wide_not.0 j 0 h)

  pub reads_small : (j : ℕ) → j < length rs → get_or rs j 0 ≤ 4
  reads_small j h = ltb-false 4 (get_or rs j 0) (any_at (ltb max_wide) rs wide_not.1 j 0 h)

-- ---- the mux bits
pub chunk_small : (q : Layout) → chunk_mux_bits q ≤ 32
unfolding chunk_mux_bits bits_for
chunk_small q = tops_le addr_bits _

module _ (m : Memory) (nets trits : List ℕ) (s : MemorySwizzle) (es ws rs : List ℕ) (base : ℕ) (e : base ≡ chunk_mux_bits (layout_by (params_by m s) es) + soft_bits s.soft_addr_bits_mask) where
  each : (old new : ℕ) → base + new - old ≡ mux_bits (layout_of (memory_of m nets trits) (plan_of s es ws rs)) old new
  unfolding mux_bits soft
  each old new =
      ap (λ (b : ℕ). b + new - old) e
      ∙ ap (λ (q : Layout). chunk_mux_bits q + soft_bits q.soft_mask + new - old) (same_layout m nets trits s es ws rs)

  -- number by number
  same_bits : (l : List (ℕ × ℕ)) → map (λ (x : ℕ × ℕ). base + x.1 - x.0) l ≡ map (λ (x : ℕ × ℕ). mux_bits (layout_of (memory_of m nets trits) (plan_of s es ws rs)) x.0 x.1) l
  same_bits l = λ i. map (λ (x : ℕ × ℕ). each x.0 x.1 i) l

  pub write_bits : map (λ (x : ℕ × ℕ). base + x.1 - x.0) (pairs (write_logs (memory_of m nets trits)) ws) ≡ write_mux_bits (memory_of m nets trits) (plan_of s es ws rs)
  unfolding write_mux_bits
  write_bits =
      same_bits (pairs (write_logs (memory_of m nets trits)) ws)
      ∙ map_first (write_wide_log2 (memory_of m nets trits)) (mux_bits (layout_of (memory_of m nets trits) (plan_of s es ws rs))) (memory_of m nets trits).writes ws

  pub read_bits : (ports : List ℕ) → map (λ (x : ℕ × ℕ). base + x.1 - x.0) (pairs (read_logs (memory_of m nets trits) ports) rs) ≡ read_mux_bits (memory_of m nets trits) ports (plan_of s es ws rs)
  unfolding read_mux_bits
  read_bits ports =
      same_bits (pairs (read_logs (memory_of m nets trits) ports) rs)
      ∙ map_first (λ (i : ℕ). read_wide_log2 (memory_of m nets trits) (read_at_of (memory_of m nets trits) i)) (mux_bits (layout_of (memory_of m nets trits) (plan_of s es ws rs))) ports rs
