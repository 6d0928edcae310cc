-- The words and nets of a whole fallback: those of the unmappings where they start, and the counts of the rest.
use mathlib.Core.Path.{◌≡◌, refl, sym, ap, ◌∙◌, subst}
use mathlib.Core.Logic.{◌≢◌}
use Prim.Native.Nat.{ℕ, ◌+◌, ◌-◌}
use native.Mathlib.Omega.{arith}
use mathlib.Core.List.{List, []}
use lib.ListN.{length}
use Rattle.rules.specs.Value.{Value}
use Rattle.rules.specs.Cell.{Mem, output_len}
use Rattle.rules.specs.Log.{Entry, Trace, ◌>>=◌, done, start_net, added, LogState}
use Rattle.rules.specs.Ports.{Driving, unmap_all}
use Rattle.rules.specs.Swizzle.{swizzle}
use Rattle.rules.specs.Fallback.{fallback_plan, lower_rows, lower_fallback}
use Rattle.rules.specs.Refusals.{room_refusal, log_refusal, lower_fallback_number}
use Rattle.rules.specs.Beside.Chain.{Chained, Chains}
use Rattle.rules.proofs.Chain.{chained_append}
use Rattle.rules.proofs.Counted.{Counted, counted_done}
use Rattle.rules.proofs.Done.{done_value}
use Rattle.rules.proofs.Traces.{bind_words, bind_next, log_refusal_at}
use Rattle.net_memory.specs.declared.Memory.{Memory}
use Rattle.net_memory.specs.View.{memory_of}
use Rattle.net_memory.specs.Given.{given_of}
use Rattle.port_unmap_all.specs.All.{unmapped_all}
use Rattle.port_unmap_all.proofs.Walk.{chains_unmapped}
use Rattle.port_unmap_all.proofs.Rules.{rules_like}
use Rattle.swizzle_laws.proofs.Pairs.{counted_bind}
use Rattle.swizzle_call.proofs.Cases.{flat_trace}
use Rattle.fallback_bare.specs.Bare.{bare_of}
use Rattle.fallback_counts.proofs.Rows.{chains_lower}
use Rattle.fallback_masks.specs.Sizes.{rows_words_of, rows_nets}
use Rattle.fallback_masks.proofs.Closed.{rows_size}
use Rattle.fallback_pass.specs.Split.{split_words, split_nets}
use Rattle.fallback_pass.proofs.Number as pass
use Rattle.fallback_pass.proofs.Unmapped.{ready, unmapped-memory, unmapped_long, unmapped_next}
use Rattle.fallback_pass.proofs.Counts.{swizzle_counted}
use Rattle.fallback.specs.Split.{split_lowered}

pub none_lower : lower_rows [] ≡ done tt
unfolding lower_rows
none_lower = refl

module _ (next : ℕ) (m : Memory) (nets trits output : List ℕ) (z : lower_fallback_number next (given_of m nets trits) output ≡ 0) where
  abbrev M : Mem
  M = memory_of m nets trits

  abbrev B : Mem
  B = memory_of (bare_of m) nets trits

  abbrev t : Trace Driving
  t = unmap_all M output

  -- ---- what follows the unmappings
  rows_of : (outs : Value) (n : ℕ) → Counted (lower_rows (swizzle B outs (fallback_plan B) n).value) (rows_words_of M) (rows_nets M)
  rows_of outs n = subst (λ (b : Mem). Counted (lower_rows (swizzle b outs (fallback_plan b) n).value) (rows_words_of M) (rows_nets M)) (sym (pass.bare_is next m nets trits output z)) (rows_size next m nets trits output z outs n)

  pub wide_rest : M.width ≢ 0 → (outs : Value) → length outs ≡ output_len M → Counted (split_lowered B outs) (split_words M + rows_words_of M) (split_nets M + rows_nets M)
  unfolding split_lowered
  wide_rest w outs e =
      counted_bind (swizzle B outs (fallback_plan B)) lower_rows (split_words M) (split_nets M) (rows_words_of M) (rows_nets M) (swizzle_counted next m nets trits output z w outs e) (rows_of outs) chains_lower

  pub flat_is : (outs : Value) → M.width ≡ 0 → split_lowered B outs ≡ (done [] >>= lower_rows)
  unfolding split_lowered
  flat_is outs w =
      ap (λ (u : Trace (List Driving)). u >>= lower_rows)
      (flat_trace B outs (fallback_plan B) (pass.bare_width next m nets trits output z ∙ sym (pass.mem_width next m nets trits output z) ∙ w))

  pub flat_rest : M.width ≡ 0 → (outs : Value) → length outs ≡ output_len M → Counted (split_lowered B outs) 0 0
  flat_rest w outs e =
      subst (λ (u : Trace Unit). Counted u 0 0) (sym (flat_is outs w))
      (counted_bind (done []) lower_rows 0 0 0 0 (counted_done []) (λ n. subst (λ (ds : List Driving). Counted (lower_rows ds) 0 0) (sym (done_value [] n)) (subst (λ (u : Trace Unit). Counted u 0 0) (sym none_lower) (counted_done tt))) chains_lower)

  abbrev rest : Driving → Trace Unit
  rest x = swizzle x.memory x.output (fallback_plan x.memory) >>= lower_rows

  pub whole_is : lower_fallback M output ≡ (t >>= rest)
  unfolding lower_fallback
  whole_is = refl

  pub rest_at : (n : ℕ) → rest (t n).value ≡ split_lowered B (t n).value.output
  unfolding split_lowered
  rest_at n = ap (λ (b : Mem). swizzle b (t n).value.output (fallback_plan b) >>= lower_rows) (unmapped-memory next m nets trits output z n)

  -- ---- in sequence
  pub chains_first : Chains t
  unfolding Chains
  chains_first n =
      let c = rules_like M (ready next m nets trits output z) output n in
      subst (λ (es : List Entry). Chained n es (t n).next) (sym c.entries_is)
      (subst (λ (k : ℕ). Chained n (unmapped_all M output output n).entries k) (sym c.next_is) (chains_unmapped M output output n))

  module _ (w k : ℕ) (r : (outs : Value) → length outs ≡ output_len M → Counted (split_lowered B outs) w k) where
    rest_counted : (n : ℕ) → Counted (rest (t n).value) w k
    rest_counted n = subst (λ (u : Trace Unit). Counted u w k) (sym (rest_at n)) (r (t n).value.output (unmapped_long next m nets trits output z n))

    chained_both : (n : ℕ) → Chained n ((t >>= rest) n).entries ((t >>= rest) n).next
    unfolding Chains ◌>>=◌
    chained_both n =
        let a = t n in
        chained_append n a.next (rest a.value a.next).next a.entries (rest a.value a.next).entries (chains_first n) ((rest_counted n).chain a.next)

    chains_both : Chains (t >>= rest)
    unfolding Chains
    chains_both n = chained_both n

    pub chains_whole : Chains (lower_fallback M output)
    chains_whole = subst Chains (sym whole_is) chains_both

    -- ---- 20 and 21
    pub whole_refusal : (room : ℕ) (s : LogState)
        → log_refusal room s (lower_fallback M output) ≡ room_refusal room s (length (added (t (start_net s))) + w) ((t (start_net s)).next - start_net s + k)
    whole_refusal room s =
        let n = start_net s in
        ap (log_refusal room s) whole_is
        ∙ log_refusal_at (t >>= rest) room s (length (added (t n)) + w) ((t n).next - n + k)
        (bind_words t rest n ∙ ap (λ (j : ℕ). length (added (t n)) + j) ((rest_counted n).words (t n).next))
        (omega (arith, bind_next t rest n, (rest_counted n).nets (t n).next, unmapped_next next m nets trits output z n))
