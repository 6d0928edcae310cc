-- The log and its state after a swizzle that no number refuses, as the rules' trace leaves them.
use mathlib.Core.Path.{◌≡◌, sym, ap, ◌∙◌, subst}
use mathlib.Core.Logic.{◌≢◌, ⊎_elim}
use Prim.Native.Nat.{ℕ, ◌<◌}
use native.Mathlib.Nat.{eq-zero-or-pos}
use native.Mathlib.Omega.{arith}
use mathlib.Core.List.{List, []}
use Rattle.lists.proofs.Choice.{else_zero}
use Rattle.rules.specs.Cell.{Mem, Plan}
use Rattle.rules.specs.Log.{log_after, state_after, start_net}
use Rattle.rules.specs.Geometry.{layout_of}
use Rattle.rules.specs.Swizzle.{swizzle, swizzle_scratch}
use Rattle.rules.specs.Conditions.{plan_too_large}
use Rattle.rules.specs.Refusals as rules
use Rattle.rules.specs.Refusals.{log_refusal, lent_refusal, image_refusal, results_refusal, swizzle_number, swizzle_refusal}
use Rattle.rules.specs.Beside.Chain.{Chains}
use Rattle.rules.proofs.Chain.{chains_done}
use Rattle.log_entries.specs.declared.LogState.{LogState}
use Rattle.log_entries.specs.Emission.{Lent, run}
use Rattle.log_entries.specs.View.{state_of, lent}
use Rattle.log_entries.proofs.Emission.{accepted_run}
use Rattle.net_memory.specs.declared.Memory.{Memory}
use Rattle.net_memory.specs.View.{memory_of}
use Rattle.net_memory.specs.Given.{given_of}
use Rattle.port_unmap_all.proofs.Rules.{all_ready}
use Rattle.port_empty.proofs.Empty.{chains_empty, rules_empty}
use Rattle.swizzle_laws.proofs.ReadsCounts.{counted_reads}
use Rattle.swizzle_laws.proofs.WritesCounts.{counted_rows}
use Rattle.swizzle_facts.proofs.Counting.{reads_readable}
use Rattle.swizzle_ready.proofs.Tests.{rows_trace}
use Rattle.swizzle_call.proofs.Cases.{number, driving, outputs, long, flat_trace, empty_trace}

module _ (r : rules.SwizzleRooms) (room : ℕ) (st : LogState) (m : Memory) (nets trits output : List ℕ) (p : Plan) (z : swizzle_refusal r room (state_of st) (given_of m nets trits) output p ≡ 0) where
  abbrev M : Mem
  M = memory_of m nets trits

  chains_flat : M.width ≡ 0 → Chains (swizzle M output p)
  chains_flat w = subst Chains (sym (flat_trace M output p w)) (chains_done [])

  chains_none : M.width ≢ 0 → M.depth ≡ 0 → Chains (swizzle M output p)
  chains_none w d =
      subst Chains
      (rules_empty M (all_ready (plan_too_large p) st.next m nets trits output (driving r room st m nets trits output p z) (long r room st m nets trits output p z d)) output (outputs r room st m nets trits output p z)
      ∙ sym (empty_trace M output p w d)) (chains_empty M output)

  chains_rows : M.width ≢ 0 → M.depth ≢ 0 → Chains (swizzle M output p)
  chains_rows w d =
      subst Chains (sym (rows_trace r room (state_of st) (given_of m nets trits) output p z w d))
      (counted_rows M output p _ _ (counted_reads M (layout_of M p) M.reads p.read_wide_of output (reads_readable st.next (given_of m nets trits) output p (number r room st m nets trits output p z) w d))).chain

  some_not : (a : ℕ) → 0 < a → a ≢ 0
  some_not a h e = omega (arith, h, e)

  chains : Chains (swizzle M output p)
  chains =
      ⊎_elim (λ w. chains_flat w) (λ w. ⊎_elim (λ d. chains_none (some_not M.width w) d) (λ d. chains_rows (some_not M.width w) (some_not M.depth d)) (eq-zero-or-pos M.depth)) (eq-zero-or-pos M.width)

  pub log_0 : log_refusal room (state_of st) (swizzle M output p) ≡ 0
  unfolding swizzle_refusal
  log_0 =
      let a = (else_zero (swizzle_number st.next (given_of m nets trits) output p) _ z).1 in
      let b = (else_zero (image_refusal r.image (layout_of M p)) _ a).1 in
      let c = (else_zero (results_refusal r M (swizzle M output p (start_net (state_of st))).value) _ b).1 in
      (else_zero (lent_refusal r.scratch (swizzle_scratch M p)) _ c).1

  pub log-after : (log : List ℕ) (l' : Lent) → l' ≡ run (swizzle M output p) (lent st log)
      → (l'.log ≡ log_after log (state_of st) (swizzle M output p st.next)) × (l'.state ≡ state_after (state_of st) (swizzle M output p st.next))
  log-after log l' e =
      let f = e ∙ accepted_run (swizzle M output p) room (state_of st) log chains log_0 in
      (ap (λ (x : Lent). x.log) f, ap (λ (x : Lent). x.state) f)
