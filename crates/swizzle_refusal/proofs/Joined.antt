-- The whole refusal of a swizzle from that of its rows, 14, and 20 and 21 of the unmapping.
use mathlib.Core.Path.{◌≡◌, refl, sym, ap, ◌∙◌}
use mathlib.Core.Logic.{◌≢◌}
use Prim.Native.Nat.{ℕ}
use native.Mathlib.Omega.{arith}
use mathlib.Core.Bool.{Bool, true, false, not, ◌&&◌}
use mathlib.Core.List.{List}
use lib.Dec.{eqb}
use borrow.Author.Tests.{eq-eqb, ne_eqb}
use Rattle.lists.specs.Choice.{when◌then◌else◌, ◌or_else◌}
use Rattle.lists.proofs.Choice.{else_first, else_rest, else_zero}
use Rattle.rules.specs.Value.{Value}
use Rattle.rules.specs.Cell.{Mem, Given, Plan}
use Rattle.rules.specs.Log.{LogState}
use Rattle.rules.specs.Swizzle.{swizzle_empty}
use Rattle.rules.specs.Conditions.{plan_too_large, bad_output_len, short_ports}
use Rattle.rules.specs.Refusals as rules
use Rattle.rules.specs.Refusals.{log_refusal, driving_number, mem_number, whole_plan, swizzle_plan_number, swizzle_refusal}
use Rattle.rules.specs.declared.numbers.Refusal.{Refusal}
use Rattle.rules.specs.Refusal.{number}
use Rattle.rules.proofs.Answers.{number_nonzero}
use Rattle.net_memory.specs.declared.Memory.{Memory}
use Rattle.net_memory.specs.View.{memory_of}
use Rattle.net_memory.specs.Given.{given_of}
use Rattle.net_check.proofs.Accept.{valid}
use Rattle.rules.specs.Conditions.{bad_value}
use Rattle.swizzle_plan.specs.declared.MemorySwizzle.{MemorySwizzle}
use Rattle.swizzle_plan.specs.Calls.{plan_of}
use Rattle.port_unmap_all.proofs.Rules.{all_ready}
use Rattle.port_empty.specs.Empty.{emptied_if}
use Rattle.port_empty.proofs.Empty.{rules_number}
use Rattle.swizzle_counts.specs.Refusal.{rows_refusal}
use Rattle.swizzle_counts.proofs.Rowed.{mem_width, mem_depth_lem}
use Rattle.swizzle_counts.proofs.Empty.{whole-plan, whole_rows, empty_number, whole_empty}

module _ (r : rules.SwizzleRooms) (room : ℕ) (st : LogState) (g : Given) (output : Value) (p : Plan) (n : ℕ) (e : n ≡ rows_refusal r room st g output p) where
  abbrev flat : Bool
  flat = not (eqb g.mem.width 0) && eqb g.mem.depth 0

  plan_when : flat ≡ true → rows_refusal r room st g output p ≡ swizzle_plan_number st.next g output p
  unfolding rows_refusal
  plan_when f = ap (λ (t : Bool). when t then swizzle_plan_number st.next g output p else swizzle_refusal r room st g output p) f

  -- a number that refuses the rows, or the plan, refuses the swizzle
  joined_first : n ≢ 0 → n ≡ swizzle_refusal r room st g output p
  joined_first h = on flat refl
    where
      on : (t : Bool) → flat ≡ t → n ≡ swizzle_refusal r room st g output p
      on true f = whole-plan r room st g output p n (e ∙ plan_when f) h
      on false f = e ∙ whole_rows r room st g output p f

  pub joined-flat : n ≡ 0 → g.mem.width ≡ 0 → 0 ≡ swizzle_refusal r room st g output p
  joined-flat z w = sym z ∙ e ∙ whole_rows r room st g output p (ap (λ (t : Bool). not t && eqb g.mem.depth 0) (eq-eqb g.mem.width 0 w))

  pub joined_rows : n ≡ 0 → g.mem.depth ≢ 0 → 0 ≡ swizzle_refusal r room st g output p
  joined_rows z d = sym z ∙ e ∙ whole_rows r room st g output p (ap (λ (t : Bool). not (eqb g.mem.width 0) && t) (ne_eqb g.mem.depth 0 d) ∙ on (not (eqb g.mem.width 0)))
    where
      on : (t : Bool) → (t && false) ≡ false
      on true = refl
      on false = refl

pub joined_err : (r : rules.SwizzleRooms) (room : ℕ) (st : LogState) (g : Given) (output : Value) (p : Plan) (e : Refusal) → number e ≡ rows_refusal r room st g output p
    → number e ≡ swizzle_refusal r room st g output p
joined_err r room st g output p e h = joined_first r room st g output p (number e) h (number_nonzero e)

-- ---- depth 0
module _ (r : rules.SwizzleRooms) (room : ℕ) (st : LogState) (m : Memory) (nets trits : List ℕ) (output : Value) (s : MemorySwizzle) (es ws rs : List ℕ) (n : ℕ)
    (e : n ≡ rows_refusal r room st (given_of m nets trits) output (plan_of s es ws rs)) (z : n ≡ 0) (w : m.width ≢ 0) (d : m.depth ≡ 0) where
  abbrev M : Mem
  M = memory_of m nets trits

  abbrev P : Plan
  P = plan_of s es ws rs

  w' : M.width ≢ 0
  w' f = w (sym (mem_width m nets trits) ∙ f)

  d' : M.depth ≡ 0
  d' = mem_depth_lem m nets trits ∙ d

  plan_passes : swizzle_plan_number st.next (given_of m nets trits) output P ≡ 0
  plan_passes = sym (empty_number r room st (given_of m nets trits) output P w' d') ∙ sym e ∙ z

  driven : driving_number (plan_too_large P) st.next (given_of m nets trits) output ≡ 0
  unfolding swizzle_plan_number
  driven = (else_zero (driving_number (plan_too_large P) st.next (given_of m nets trits) output) _ plan_passes).0

  outputs : bad_output_len M output ≡ false
  unfolding driving_number
  outputs = (valid (plan_too_large P) (bad_output_len M output) (bad_value st.next output) st.next m nets trits driven).two_not

  form : swizzle_refusal r room st (given_of m nets trits) output P ≡ ((when short_ports M then 14 else 0) or_else log_refusal room st (swizzle_empty M output))
  form = whole_empty r room st (given_of m nets trits) output P w' d' plan_passes

  pub joined_short : short_ports M ≡ true → 14 ≡ swizzle_refusal r room st (given_of m nets trits) output P
  joined_short f =
      sym (form ∙ ap (λ (t : Bool). (when t then 14 else 0) or_else log_refusal room st (swizzle_empty M output)) f ∙ else_first 14 (log_refusal room st (swizzle_empty M output)) (λ q. absurd (omega (arith, q))))

  pub joined_empty : (k : ℕ) → short_ports M ≡ false → k ≡ log_refusal room st (emptied_if M output) → k ≡ swizzle_refusal r room st (given_of m nets trits) output P
  joined_empty k f q =
      q ∙ rules_number M (all_ready (plan_too_large P) st.next m nets trits output driven f) output outputs room st
      ∙ sym (form ∙ ap (λ (t : Bool). (when t then 14 else 0) or_else log_refusal room st (swizzle_empty M output)) f ∙ else_rest 0 (log_refusal room st (swizzle_empty M output)) refl)
