-- The words and nets of the split of a memory without flip-flops by the plan of a fallback.
use mathlib.Core.Path.{◌≡◌, refl, sym, ap, ◌∙◌, subst}
use mathlib.Core.Logic.{◌≢◌, ⊎_elim}
use Prim.Native.Nat.{ℕ, zero, suc, ◌+◌, ◌*◌}
use native.Mathlib.Nat.{le_refl, eq-zero-or-pos}
use native.Mathlib.Omega.{arith}
use mathlib.Core.Option.{Option, none}
use mathlib.Core.List.{List, [], ◌∷◌, map}
use lib.ListN.{length, get_or, length-replicate}
use lib.Dec.{eqb}
use borrow.Author.Tests.{eq-eqb, ne_eqb}
use Rattle.lists.specs.Lists.{sum_by, up_from}
use Rattle.lists.proofs.Choice.{if_true, if_false}
use Rattle.rules.specs.Limits.{X}
use Rattle.rules.specs.Value.{Value, x_nets}
use Rattle.rules.specs.Cell.{ReadFlipFlop, ReadPort, Mem, Plan, read_at_of, output_len, with_reads}
use Rattle.rules.specs.Log.{Trace, ◌>>=◌, ◌>>◌, done, replace_value_of}
use Rattle.rules.specs.Ports.{Driving, unmap_read_dff_of, unmap_read_dff, unmap_each, unmap_all}
use Rattle.rules.specs.Geometry.{Layout, layout_of}
use Rattle.rules.specs.Swizzle.{swizzle, swizzle_empty, swizzle_rows}
use Rattle.rules.specs.Refusals.{lower_fallback_number}
use Rattle.rules.specs.Fallback.{fallback_plan}
use Rattle.rules.specs.Beside.Counts.{Count, plus, swizzle_count}
use Rattle.rules.proofs.Counted.{Counted, counted_same, counted_replace}
use Rattle.net_memory.specs.declared.Memory.{Memory}
use Rattle.net_memory.specs.View.{memory_of}
use Rattle.net_memory.specs.Given.{given_of}
use Rattle.port_unmap_all.specs.All.{bare, all_bare}
use Rattle.swizzle_laws.proofs.ReadsCounts.{reads_count_of, Readables, counted_reads}
use Rattle.swizzle_laws.proofs.WritesCounts.{writes_count_of, counted_rows}
use Rattle.swizzle_facts.proofs.Counting.{readables}
use Rattle.fallback_bare.specs.Bare.{bare_of}
use Rattle.fallback_pass.specs.Split.{split_rows, split_words, split_nets}
use Rattle.fallback_pass.proofs.Number.{bare_is, bare_depth, mem_depth_lem, same_outputs, bare_some}
use Rattle.fallback_pass.proofs.Refusal.{rows_trace, empty_trace, layout_facts, read_pairs}
use Rattle.fallback_pass.proofs.Unmapped.{given_long, given_good}

-- ---- nothing is left to unmap
flip_none : (rs : List ReadPort) (i : ℕ) (d : ReadPort) → d.flip_flop ≡ none → (get_or (map bare rs) i d).flip_flop ≡ none
flip_none [] i d e = e
flip_none (r ∷ rs) zero d e = refl
flip_none (r ∷ rs) (suc i) d e = flip_none rs i d e

at_none : (m : Mem) (i : ℕ) → (read_at_of (all_bare m) i).flip_flop ≡ none
unfolding read_at_of all_bare with_reads
at_none m i = flip_none m.reads i _ refl

done_then : {A B : Type 0} (a : A) (f : A → Trace B) → (done a >>= f) ≡ f a
unfolding done ◌>>=◌
done_then a f = refl

module _ (m : Mem) (h : (i : ℕ) → (read_at_of m i).flip_flop ≡ none) (outs : Value) where
  abbrev same : Driving
  same = record { memory = m; output = outs }

  port_none : (i : ℕ) → unmap_read_dff m i outs ≡ done same
  unfolding unmap_read_dff unmap_read_dff_of
  port_none i = ap (λ (o : Option ReadFlipFlop). unmap_read_dff_of o m i outs) (h i)

  each_none : (is : List ℕ) → unmap_each is m outs ≡ done same
  unfolding unmap_each
  each_none [] = refl
  each_none (i ∷ is) = (λ k. port_none i k >>= λ x. unmap_each is x.memory x.output) ∙ done_then same (λ x. unmap_each is x.memory x.output) ∙ each_none is

  all_none : unmap_all m outs ≡ done same
  unfolding unmap_all
  all_none = each_none (up_from 0 (length m.reads))

  abbrev cleared : Trace (List Driving)
  cleared = replace_value_of outs (x_nets (length outs)) >> done []

  empty_is : swizzle_empty m outs ≡ cleared
  unfolding swizzle_empty
  empty_is = (λ k. all_none k >>= λ x. (replace_value_of x.output (x_nets (length x.output)) >> done [])) ∙ done_then same (λ x. replace_value_of x.output (x_nets (length x.output)) >> done [])

  x_long : length (x_nets (length outs)) ≡ length outs
  unfolding x_nets
  x_long = length-replicate (length outs) X

  cleared_counted : Counted cleared (4 + (length outs + length (x_nets (length outs)))) 0
  unfolding ◌>>◌
  cleared_counted = counted_same (replace_value_of outs (x_nets (length outs))) (λ v. []) _ 0 (counted_replace outs (x_nets (length outs)))

  empty_counted : (n : ℕ) → length outs ≡ n → Counted (swizzle_empty m outs) (4 + 2 * n) 0
  empty_counted n e =
      let w : 4 + (length outs + length (x_nets (length outs))) ≡ 4 + 2 * n = omega (arith, x_long) in
      subst (λ (t : Trace (List Driving)). Counted t (4 + 2 * n) 0) (sym empty_is) (subst (λ (k : ℕ). Counted cleared k 0) w cleared_counted)

-- ---- the counts of the rules
pub count_words : (m : Mem) (p : Plan) → (swizzle_count m p).words ≡ (writes_count_of m (layout_of m p) m.writes p.write_wide).words + (reads_count_of m (layout_of m p) m.reads p.read_wide_of).words
unfolding swizzle_count plus
count_words m p = refl

pub count_nets : (m : Mem) (p : Plan) → (swizzle_count m p).nets ≡ (writes_count_of m (layout_of m p) m.writes p.write_wide).nets + (reads_count_of m (layout_of m p) m.reads p.read_wide_of).nets
unfolding swizzle_count plus
count_nets m p = refl

pub rows_of : (m : Mem) → m.depth ≢ 0 → (split_words m ≡ (split_rows m).words) × (split_nets m ≡ (split_rows m).nets)
unfolding split_words split_nets
rows_of m d = (if_false (eqb m.depth 0) _ _ (ne_eqb m.depth 0 d), if_false (eqb m.depth 0) _ _ (ne_eqb m.depth 0 d))

pub empty_of : (m : Mem) → m.depth ≡ 0 → (split_words m ≡ 4 + 2 * output_len m) × (split_nets m ≡ 0)
unfolding split_words split_nets
empty_of m d = (if_true (eqb m.depth 0) _ _ (eq-eqb m.depth 0 d), if_true (eqb m.depth 0) _ _ (eq-eqb m.depth 0 d))

module _ (next : ℕ) (m : Memory) (nets trits output : List ℕ) (z : lower_fallback_number next (given_of m nets trits) output ≡ 0) where
  abbrev M : Mem
  M = memory_of m nets trits

  abbrev B : Mem
  B = memory_of (bare_of m) nets trits

  abbrev P : Plan
  P = fallback_plan B

  abbrev q : Layout
  q = layout_of B P

  pub depth_same : B.depth ≡ M.depth
  depth_same = bare_depth next m nets trits output z ∙ sym (mem_depth_lem next m nets trits output z)

  pub count_is : swizzle_count B P ≡ split_rows M
  unfolding split_rows
  count_is = ap (λ (v : Mem). swizzle_count v (fallback_plan v)) (bare_is next m nets trits output z)

  bare_none : (i : ℕ) → (read_at_of B i).flip_flop ≡ none
  bare_none i = ap (λ (v : Mem). (read_at_of v i).flip_flop) (bare_is next m nets trits output z) ∙ at_none M i

  module _ (w : M.width ≢ 0) (outs : Value) (long : length outs ≡ output_len M) where
    w' : B.width ≢ 0
    w' = bare_some next m nets trits output z w

    outs_long : length outs ≡ sum_by (λ (r : ReadPort). r.data_len) B.reads
    unfolding output_len
    outs_long = long ∙ sym (same_outputs next m nets trits output z)

    module _ (d : B.depth ≢ 0) where
      readable : Readables B q B.reads P.read_wide_of outs
      readable =
          readables B q (layout_facts next m nets trits output z w next (le_refl next) output (given_long next m nets trits output z) (given_good next m nets trits output z) d) B.reads P.read_wide_of
          (read_pairs next m nets trits output z w next (le_refl next) output (given_long next m nets trits output z) (given_good next m nets trits output z)) outs outs_long

      by_counts : Counted (swizzle_rows B outs P) (swizzle_count B P).words (swizzle_count B P).nets
      by_counts =
          let c = counted_rows B outs P _ _ (counted_reads B q B.reads P.read_wide_of outs readable) in
          record { words = λ n. c.words n ∙ sym (count_words B P); nets = λ n. c.nets n ∙ ap (λ (k : ℕ). n + k) (sym (count_nets B P)); chain = c.chain }

      d' : M.depth ≢ 0
      d' e = d (depth_same ∙ e)

      rows_counted : Counted (swizzle B outs P) (split_words M) (split_nets M)
      rows_counted =
          let a : (swizzle_count B P).words ≡ split_words M = ap (λ (c : Count). c.words) count_is ∙ sym (rows_of M d').0 in
          let b : (swizzle_count B P).nets ≡ split_nets M = ap (λ (c : Count). c.nets) count_is ∙ sym (rows_of M d').1 in
          subst (λ (t : Trace (List Driving)). Counted t (split_words M) (split_nets M)) (sym (rows_trace B outs P w' d))
          (record { words = λ n. by_counts.words n ∙ a; nets = λ n. by_counts.nets n ∙ ap (λ (k : ℕ). n + k) b; chain = by_counts.chain })

    none_counted : B.depth ≡ 0 → Counted (swizzle B outs P) (split_words M) (split_nets M)
    none_counted d =
        let e = empty_of M (sym depth_same ∙ d) in
        let c = empty_counted B bare_none outs (output_len M) long in
        subst (λ (t : Trace (List Driving)). Counted t (split_words M) (split_nets M)) (sym (empty_trace B outs P w' d))
        (record { words = λ n. c.words n ∙ sym e.0; nets = λ n. c.nets n ∙ ap (λ (k : ℕ). n + k) (sym e.1); chain = c.chain })

    pub swizzle_counted : Counted (swizzle B outs P) (split_words M) (split_nets M)
    swizzle_counted = ⊎_elim (λ d. none_counted d) (λ p. rows_counted (λ d. omega (arith, p, d))) (eq-zero-or-pos B.depth)
