-- The numbers of a memory with a plan by their tests, and what is known where there is none.
use mathlib.Core.Path.{◌≡◌, refl, sym, ap, ◌∙◌}
use mathlib.Core.Logic.{◌≢◌}
use Prim.Native.Nat.{ℕ, ◌*◌}
use native.Mathlib.Omega.{arith}
use mathlib.Core.Bool.{Bool, true, false, ◌||◌}
use mathlib.Core.List.{List}
use lib.ListN.{length}
use lib.Dec.{eqb, ltb}
use Rattle.lists.specs.Choice.{when◌then◌else◌}
use Rattle.lists.proofs.Choice.{else_rest, else_zero, or_false, or_both}
use Rattle.rules.specs.Limits.{max_depth, max_width, max_bits, max_row, max_unit, max_hard, max_nets}
use Rattle.rules.specs.Cell.{Plan}
use Rattle.rules.specs.Geometry.{Layout, layout_of, row_len_of, all_mems, swizzle_depths}
use Rattle.rules.specs.Conditions.{too_large, plan_too_large, bad_layout_sizes, result_too_large, no_room_of}
use Rattle.rules.specs.Refusals.{mem_number, planned_number, swizzle_depths_refusal}
use Rattle.rules.specs.declared.numbers.Refusal.{Refusal}
use Rattle.rules.specs.Refusal.{number}
use Rattle.rules.proofs.Answers.{number_nonzero, else_err, filled_err}
use Rattle.rules.specs.Answers.{Filled, filled, filled_with, swizzle_depths_call}
use Rattle.rules.specs.Beside.Shape.{result_number, depths_refusal, depths_call}
use Rattle.net_memory.specs.declared.Memory.{Memory}
use Rattle.net_memory.specs.View.{memory_of}
use Rattle.net_check.proofs.Accept.{Valid, valid}
use Rattle.image_geometry.specs.View.{layout_by}
use Rattle.swizzle_plan.specs.Calls.{plan_of, params_by}
use Rattle.net_memory.specs.Given.{given_of}
use Rattle.swizzle_plan.specs.declared.MemorySwizzle.{MemorySwizzle}

ten : (a b : Bool) (x : ℕ) → a ≡ false → ◌≢◌ {A = ℕ} (when a then 1 else when b then 10 else 0) 0 → ◌≡◌ {A = ℕ} (when a then 1 else when b then 10 else 0) (when b then 10 else x)
ten a true x e h = ap {A = Bool} {B = ℕ} (λ (t : Bool). when t then 1 else 10) e
ten a false x e h = absurd (h (ap {A = Bool} {B = ℕ} (λ (t : Bool). when t then 1 else 0) e))

ten_not : ◌≡◌ {A = ℕ} 10 0 → ⊥
ten_not z = omega arith

room_left : (a b c : Bool) → a ≡ false → ◌≡◌ {A = ℕ} (when a then 1 else when b then 10 else 0) 0 → ◌≡◌ {A = ℕ} (when a then 1 else when c then 20 else 0) (when b then 10 else when c then 20 else 0)
room_left a true c e h = absurd (ten_not (sym (ap {A = Bool} {B = ℕ} (λ (x : Bool). when x then 1 else 10) e) ∙ h))
room_left a false c e h = ap {A = Bool} {B = ℕ} (λ (t : Bool). when t then 1 else when c then 20 else 0) e

module _ (m : Memory) (nets trits : List ℕ) (s : MemorySwizzle) (es ws rs : List ℕ) where
  abbrev p : Plan
  p = plan_of s es ws rs

  abbrev q : Layout
  q = layout_by (params_by m s) es

  pub same_layout : q ≡ layout_of (memory_of m nets trits) p
  unfolding layout_of memory_of
  same_layout = refl

  module _ (long : Bool) where
    -- no number
    pub planned_valid : planned_number long (given_of m nets trits) p ≡ 0 → Valid (plan_too_large p || long) false false max_nets m nets trits
    unfolding planned_number
    planned_valid e =
        valid (plan_too_large p || long) false false max_nets m nets trits (else_zero (mem_number (plan_too_large p || long) false false max_nets (given_of m nets trits)) _ e).0

    pub planned_sizes : planned_number long (given_of m nets trits) p ≡ 0 → bad_layout_sizes m.depth m.width (length es) s.data_width_unit s.hard_addr_bits ≡ false
    unfolding bad_layout_sizes plan_too_large too_large memory_of
    planned_sizes e =
        let v = planned_valid e in
        let a = or_false (ltb max_depth m.depth) _ v.large_not in
        let b = or_false (ltb max_width m.width) _ a.1 in
        let c = or_false (ltb max_bits (m.depth * m.width)) _ b.1 in
        let d = (or_false (plan_too_large p) long v.one_not).0 in
        let f = or_false (ltb max_row (length es)) _ d in
        let g = or_false (eqb s.data_width_unit 0) _ f.1 in
        let h = or_false (ltb max_unit s.data_width_unit) _ g.1 in
        let i = or_false (ltb max_hard s.hard_addr_bits) _ h.1 in
        or_both a.0 (or_both b.0 (or_both c.0 (or_both f.0 (or_both g.0 (or_both h.0 i.0)))))

  -- ---- swizzle_depths
  module _ (out : List ℕ) where
    abbrev refusal : ℕ
    refusal = swizzle_depths_refusal (length out) (given_of m nets trits) p

    abbrev depths : List ℕ
    depths = swizzle_depths (layout_of (memory_of m nets trits) p)

    pub depths_err : (e : Refusal) → number e ≡ planned_number false (given_of m nets trits) p → filled_with (number e) out ≡ swizzle_depths_call out (given_of m nets trits) p
    unfolding swizzle_depths_call swizzle_depths_refusal
    depths_err e h = filled_err e refusal out depths (else_err e (planned_number false (given_of m nets trits) p) _ h)

    module _ (z : 0 ≡ planned_number false (given_of m nets trits) p) where
      pub depths_ten : (e : Refusal) (x : Layout) → x ≡ q → number e ≡ result_number x → filled_with (number e) out ≡ swizzle_depths_call out (given_of m nets trits) p
      unfolding swizzle_depths_call swizzle_depths_refusal result_number row_len_of
      depths_ten e x f h =
          let k : number e ≡ result_number q = h ∙ ap result_number f in
          filled_err e refusal out depths
          (k
          ∙ ten (bad_layout_sizes m.depth m.width (length es) s.data_width_unit s.hard_addr_bits) (result_too_large q) (when no_room_of (length out) (all_mems q) then 20 else 0) (planned_sizes false (sym z)) (λ y. number_nonzero e (k ∙ y))
          ∙ ap (λ (l : Layout). when result_too_large l then 10 else when no_room_of (length out) (all_mems l) then 20 else 0) same_layout
          ∙ sym (else_rest (planned_number false (given_of m nets trits) p) _ (sym z)))

      depths_rest : 0 ≡ result_number q → depths_refusal (length out) q ≡ refusal
      unfolding swizzle_depths_refusal result_number depths_refusal row_len_of
      depths_rest e =
          room_left (bad_layout_sizes m.depth m.width (length es) s.data_width_unit s.hard_addr_bits) (result_too_large q) (no_room_of (length out) (all_mems q)) (planned_sizes false (sym z)) (sym e)
          ∙ ap (λ (l : Layout). when result_too_large l then 10 else when no_room_of (length out) (all_mems l) then 20 else 0) same_layout
          ∙ sym (else_rest (planned_number false (given_of m nets trits) p) _ (sym z))

      pub depths_done : (x : Layout) (f : Filled) → x ≡ q → 0 ≡ result_number x → f ≡ depths_call out x → f ≡ swizzle_depths_call out (given_of m nets trits) p
      unfolding swizzle_depths_call depths_call
      depths_done x f g e h =
          h
          ∙ ap (depths_call out) g
          ∙ (λ i. filled (depths_rest (e ∙ ap result_number g) i) out (swizzle_depths (same_layout i)))
