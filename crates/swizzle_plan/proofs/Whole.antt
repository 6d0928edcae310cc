-- The numbers of a whole plan by their tests.
use mathlib.Core.Path.{◌≡◌, refl, sym, ap, ◌∙◌}
use Prim.Native.Nat.{ℕ, zero, suc, ◌*◌, ◌≤◌}
use native.Mathlib.Omega.{arith}
use mathlib.Core.Bool.{Bool, true, false, not, ◌&&◌, ◌||◌}
use mathlib.Core.List.{List, [], ◌∷◌}
use lib.ListN.{length}
use lib.Dec.{eqb, ltb}
use borrow.Author.Tests.{eq-eqb, ne_eqb}
use Rattle.lists.specs.Choice.{when◌then◌else◌, ◌or_else◌}
use Rattle.lists.specs.Lists.{part, up_from}
use Rattle.lists.proofs.Choice.{or_false, or_both}
use Rattle.rules.specs.Limits.{max_depth, max_width, max_bits, max_row, max_unit, max_hard, addr_bits}
use Rattle.rules.specs.Numbers.{top_bits}
use Rattle.rules.specs.Cell.{Plan}
use Rattle.rules.specs.Geometry.{layout_of, row_len_of}
use Rattle.rules.specs.Conditions.{too_large, plan_too_large, bad_entries, bad_soft_mask, indivisible, bad_writes, bad_reads, all_reads, bad_layout_sizes, result_too_large, image_too_large, bad_output_len, bad_value}
use Rattle.rules.specs.Refusals.{plan_number, wide_number, image_number, whole_plan, driving_number}
use Rattle.rules.specs.Beside.Shape.{entries_number, soft_mask_number, result_number}
use Rattle.rules.specs.declared.numbers.Refusal.{Refusal}
use Rattle.rules.specs.Refusal.{number}
use Rattle.rules.proofs.Answers.{else_err, else_ok}
use Rattle.net_memory.specs.declared.Memory.{Memory}
use Rattle.net_memory.specs.View.{memory_of, reads_of}
use Rattle.net_check.proofs.Accept.{Valid, valid}
use Rattle.image_geometry.specs.View.{layout_by}
use Rattle.swizzle_plan.specs.declared.MemorySwizzle.{MemorySwizzle}
use Rattle.net_memory.specs.Given.{given_of}
use Rattle.swizzle_plan.specs.Calls.{plan_of, params_by}

-- the numbers of the first ports
pub first_ports : (n : ℕ) → n ≤ 8 → part 0 n (0 ∷ 1 ∷ 2 ∷ 3 ∷ 4 ∷ 5 ∷ 6 ∷ 7 ∷ []) ≡ up_from 0 n
first_ports zero h = refl
first_ports (suc zero) h = refl
first_ports (suc (suc zero)) h = refl
first_ports (suc (suc (suc zero))) h = refl
first_ports (suc (suc (suc (suc zero)))) h = refl
first_ports (suc (suc (suc (suc (suc zero))))) h = refl
first_ports (suc (suc (suc (suc (suc (suc zero)))))) h = refl
first_ports (suc (suc (suc (suc (suc (suc (suc zero))))))) h = refl
first_ports (suc (suc (suc (suc (suc (suc (suc (suc zero)))))))) h = refl
first_ports (suc (suc (suc (suc (suc (suc (suc (suc (suc n))))))))) h = absurd (omega arith)

pub every_port : (m : Memory) (nets trits : List ℕ) (n : ℕ) → length (reads_of m nets trits) ≡ n → up_from 0 n ≡ all_reads (memory_of m nets trits)
unfolding all_reads memory_of
every_port m nets trits n e = ap (up_from 0) (sym e)

-- 7 and 8
seven_eight : (a b : Bool) → ◌≡◌ {A = ℕ} ((when a then 7 else 0) or_else (when b then 8 else 0)) (when a then 7 else when b then 8 else 0)
unfolding ◌or_else◌
seven_eight true b = refl
seven_eight false b = refl

module _ (m : Memory) (nets trits : List ℕ) (s : MemorySwizzle) (es ws rs : List ℕ) where
  parts_are : (entries_number m.width es or_else soft_mask_number m.depth s.soft_addr_bits_mask) ≡ plan_number (memory_of m nets trits) (plan_of s es ws rs)
  unfolding entries_number soft_mask_number plan_number bad_soft_mask memory_of
  parts_are = seven_eight (bad_entries m.width es) (indivisible m.depth (top_bits addr_bits s.soft_addr_bits_mask))

  pub entries_err : (e : Refusal) → number e ≡ entries_number m.width es → number e ≡ plan_number (memory_of m nets trits) (plan_of s es ws rs)
  entries_err e h = else_err e (entries_number m.width es) (soft_mask_number m.depth s.soft_addr_bits_mask) h ∙ parts_are

  pub entries_ok : (k : ℕ) → 0 ≡ entries_number m.width es → k ≡ soft_mask_number m.depth s.soft_addr_bits_mask → k ≡ plan_number (memory_of m nets trits) (plan_of s es ws rs)
  entries_ok k h q = else_ok (entries_number m.width es) (soft_mask_number m.depth s.soft_addr_bits_mask) k h q ∙ parts_are

-- 9, then width 0 or 10
nine : (c : Bool) (x : ℕ) → c ≡ true → 9 ≡ ((when c then 9 else 0) or_else x)
unfolding ◌or_else◌
nine true x e = refl
nine false x e = let z : ◌≡◌ {A = ℕ} 0 1 = cc in absurd (omega arith)

rest : (c : Bool) (x k : ℕ) → c ≡ false → k ≡ x → k ≡ ((when c then 9 else 0) or_else x)
unfolding ◌or_else◌
rest true x k e h = let z : ◌≡◌ {A = ℕ} 0 1 = cc in absurd (omega arith)
rest false x k e h = h

flat : (z d : Bool) → z ≡ true → ◌≡◌ {A = ℕ} 0 (when not z && d then 10 else 0)
flat z d e = sym (ap {A = Bool} {B = ℕ} (λ (x : Bool). when not x && d then 10 else 0) e)

ten : (z d t : Bool) (r : ℕ) → z ≡ false → t ≡ false → r ≡ (when t then 1 else when d then 10 else 0) → r ≡ (when not z && d then 10 else 0)
ten z d t r e q f = f ∙ ap {A = Bool} {B = ℕ} (λ (x : Bool). when x then 1 else when d then 10 else 0) q ∙ sym (ap {A = Bool} {B = ℕ} (λ (x : Bool). when not x && d then 10 else 0) e)

module _ (m : Memory) (nets trits : List ℕ) (s : MemorySwizzle) (es ws rs : List ℕ) where
  abbrev p : Plan
  p = plan_of s es ws rs

  abbrev logs : Bool
  logs = bad_writes (memory_of m nets trits) p || bad_reads (memory_of m nets trits) (all_reads (memory_of m nets trits)) p

  abbrev large : Bool
  large = result_too_large (layout_by (params_by m s) es)

  module _ (h : 0 ≡ plan_number (memory_of m nets trits) p) where
    pub by_nine : logs ≡ true → 9 ≡ whole_plan (memory_of m nets trits) p
    unfolding whole_plan wide_number
    by_nine t = else_ok (plan_number (memory_of m nets trits) p) _ 9 h (nine logs _ t)

    module _ (t : logs ≡ false) where
      pub by_flat : m.width ≡ 0 → 0 ≡ whole_plan (memory_of m nets trits) p
      unfolding whole_plan wide_number image_number image_too_large memory_of layout_of
      by_flat z = else_ok (plan_number (memory_of m nets trits) p) _ 0 h (rest logs _ 0 t (flat (eqb m.width 0) large (eq-eqb _ _ z)))

      pub by_ten : (m.width ≡ 0 → ⊥) → bad_layout_sizes m.depth m.width (length es) s.data_width_unit s.hard_addr_bits ≡ false
          → (r : ℕ) → r ≡ result_number (layout_by (params_by m s) es) → r ≡ whole_plan (memory_of m nets trits) p
      unfolding whole_plan wide_number image_number image_too_large memory_of layout_of result_number row_len_of
      by_ten z b r g =
          else_ok (plan_number (memory_of m nets trits) p) _ r h
          (rest logs _ r t (ten (eqb m.width 0) large (bad_layout_sizes m.depth m.width (length es) s.data_width_unit s.hard_addr_bits) r (ne_eqb _ _ z) b g))

  -- ---- the whole number
  module _ (next : ℕ) (output : List ℕ) where
    abbrev first : ℕ
    first = driving_number (plan_too_large p) next (given_of m nets trits) output

    driven : first ≡ 0 → Valid (plan_too_large p) (bad_output_len (memory_of m nets trits) output) (bad_value next output) next m nets trits
    unfolding driving_number
    driven z = valid (plan_too_large p) (bad_output_len (memory_of m nets trits) output) (bad_value next output) next m nets trits z

    pub sizes_good : first ≡ 0 → bad_layout_sizes m.depth m.width (length es) s.data_width_unit s.hard_addr_bits ≡ false
    unfolding bad_layout_sizes plan_too_large too_large memory_of
    sizes_good z =
        let v = driven z in
        let a = or_false (ltb max_depth m.depth) _ v.large_not in
        let b = or_false (ltb max_width m.width) _ a.1 in
        let c = or_false (ltb max_bits (m.depth * m.width)) _ b.1 in
        let f = or_false (ltb max_row (length es)) _ v.one_not in
        let g = or_false (eqb s.data_width_unit 0) _ f.1 in
        let h = or_false (ltb max_unit s.data_width_unit) _ g.1 in
        let i = or_false (ltb max_hard s.hard_addr_bits) _ h.1 in
        or_both a.0 (or_both b.0 (or_both c.0 (or_both f.0 (or_both g.0 (or_both h.0 i.0)))))
