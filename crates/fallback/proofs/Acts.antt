-- The dry run of the unmappings, and the log of a fallback that no number refuses.
use mathlib.Core.Path.{◌≡◌, refl, sym, ap, ◌∙◌, subst}
use mathlib.Core.Logic.{◌≢◌, ⊎_elim}
use Prim.Native.Nat.{ℕ, ◌+◌, ◌-◌, ◌*◌, ◌<◌, ◌≤◌}
use native.Mathlib.Nat.{zero-add}
use native.Mathlib.Omega.{arith}
use mathlib.Core.Bool.{Bool, true, false, ◌&&◌}
use mathlib.Core.List.{List, [], ◌∷◌}
use lib.ListN.{length, take}
use lib.Seq.{sets}
use lib.Dec.{leb, ltb}
use borrow.Author.Tests.{le-ltb, ltb-false, leb-true}
use Rattle.lists.specs.Choice.{when◌then◌else◌}
use Rattle.lists.specs.Lists.{part}
use Rattle.lists.proofs.Choice.{else_zero, and_true, refused_not}
use Rattle.rules.specs.Limits.{max_outputs, max_bits, max_nets, max_words, X}
use Rattle.rules.specs.Value.{Value, good_value}
use Rattle.rules.specs.Cell.{Mem, output_len}
use Rattle.rules.specs.Log.{Entry, encode, Trace, ◌>>=◌, ◌>>◌, done, replace_value_of, request, LogState, start_net, added, state_after}
use Rattle.rules.specs.Ports.{Driving, unmap_all}
use Rattle.rules.specs.Conditions.{no_room_of}
use Rattle.rules.specs.Fallback.{fallback_plan, lower_rows, lower_fallback, fallback_scratch}
use Rattle.rules.specs.Refusals.{room_refusal, log_refusal, lent_refusal, swizzle_refusal, lower_fallback_number, lower_fallback_refusal}
use Rattle.rules.specs.Beside.Chain.{Chains, result_width}
use Rattle.rules.proofs.Chain.{chains_done}
use Rattle.rules.proofs.Counted.{Counted, counted_refusal}
use Rattle.rules.proofs.Traces.{start_same, next_after}
use Rattle.rules.proofs.Walks.{lt_or_le}
use Rattle.log_entries.specs.declared.LogState as machine
use Rattle.log_entries.specs.Emission.{Lent, counts, advanced, overflowed, is_over, emit_words, emit, run, dry_start}
use Rattle.log_entries.specs.View.{state_of, lent}
use Rattle.log_entries.proofs.Rooms.{Fits, room_0, room_fits}
use Rattle.log_entries.proofs.Emission.{ran, is_over_lem, run_exact, run_fits, run-done, run_then, accepted_run, accepted_held}
use Rattle.net_memory.specs.declared.Memory.{Memory}
use Rattle.net_memory.specs.View.{memory_of}
use Rattle.net_memory.specs.Given.{given_of}
use Rattle.port_transparency.specs.Gave.{Gave}
use Rattle.port_unmap_all.specs.All.{unmapped_all, all_bare}
use Rattle.port_unmap_all.proofs.Rules.{unmap_all_gave, rules_like}
use Rattle.port_empty.specs.Empty.{emptied, emptied_if}
use Rattle.port_empty.proofs.Bounds.{empty_below}
use Rattle.port_empty.proofs.Empty.{outputs_few}
use Rattle.fallback_bare.specs.Bare.{bare_of}
use Rattle.fallback_masks.specs.Sizes.{rows_words_of, rows_nets}
use Rattle.fallback_pass.specs.Split.{split_words, split_nets}
use Rattle.fallback_pass.proofs.Number as pass
use Rattle.fallback_pass.proofs.Refusal.{bare_refusal}
use Rattle.fallback_pass.proofs.Unmapped.{ready, unmapped_next, unmapped_long, unmapped_good}
use Rattle.fallback_pass.proofs.Counts.{swizzle_counted}
use Rattle.fallback.specs.Split.{rooms, Ready, split_lowered}
use Rattle.fallback.specs.Refusal.{DryRun}
use Rattle.fallback.proofs.Total.{none_lower, wide_rest, flat_rest, whole_is, rest_at, flat_is, chains_first, whole_refusal}

-- ---- words that are counted
one_most : (l : Lent) (ws : List ℕ) (k : ℕ) → l.state.used ≤ max_words → (emit_words l ws k).state.used ≤ max_words
unfolding emit_words counts
one_most l ws k h = on (leb (l.state.used + length ws) max_words && ltb (l.state.next + k) X) refl
  where
    on : (b : Bool) → (leb (l.state.used + length ws) max_words && ltb (l.state.next + k) X) ≡ b
        → (when◌then◌else◌ {A = Lent} b (record { log = sets l.log l.state.used ws; state = advanced l.state (length ws) k; name = l.name }) (record { log = l.log; state = overflowed l.state; name = l.name })).state.used ≤ max_words
    on true e = leb-true _ max_words (and_true (leb (l.state.used + length ws) max_words) _ e).0
    on false e = h

emit-most : (l : Lent) (es : List Entry) → l.state.used ≤ max_words → (emit l es).state.used ≤ max_words
unfolding emit
emit-most l [] h = h
emit-most l (e ∷ es) h = emit-most (emit_words l (encode e) (result_width e)) es (one_most l (encode e) (result_width e) h)

run-most : {A : Type 0} (t : Trace A) (l : Lent) → l.state.used ≤ max_words → (run t l).state.used ≤ max_words
unfolding run
run-most t l h = emit-most l (t l.state.next).entries h

-- ---- a dry run
module _ {A : Type 0} (t : Trace A) (s : LogState) (c : Chains t) (h : (t (start_net s)).next < X) (log : List ℕ) where
  abbrev dry : Lent
  dry = record { log = log; state = dry_start s; name = 0 }

  dry_ran : (ran t dry).state ≡ record { used = length (added (t (start_net s))); next = (t (start_net s)).next }
  unfolding state_after dry_start
  dry_ran = λ i. record { used = zero-add (length (added (t (start_net s)))) i; next = (t (start_net s)).next }

  exact_state : is_over (run t dry).state ≡ false → (run t dry).state ≡ record { used = length (added (t (start_net s))); next = (t (start_net s)).next }
  exact_state o = ap (λ (x : Lent). x.state) (run_exact t dry c o) ∙ dry_ran

  start_used : dry.state.used ≤ max_words
  unfolding dry_start
  start_used = omega arith

  fit_next : length (added (t (start_net s))) ≤ max_words → (run t dry).state.next ≡ (t (start_net s)).next
  unfolding dry_start
  fit_next g = ap (λ (x : Lent). x.state.next) (run_fits t dry c (rw zero-add g) h) ∙ ap (λ (x : LogState). x.next) dry_ran

  over_full : is_over (run t dry).state ≡ true → max_words < length (added (t (start_net s)))
  over_full o =
      ⊎_elim (λ g. g) (λ g. absurd (omega (arith, is_over_lem (run t dry).state o, fit_next g, h))) (lt_or_le max_words (length (added (t (start_net s)))))

-- ---- the unmappings
same_next : (m : Mem) (output : Value) (n : ℕ) → (emptied m output n).next ≡ (unmapped_all m output output n).next
unfolding emptied ◌>>=◌ ◌>>◌ done replace_value_of request
same_next m output n = plus_none (unmapped_all m output output n).next
  where
    plus_none : (k : ℕ) → k + 0 ≡ k
    plus_none k = omega arith

if_next : (m : Mem) (output : Value) (n : ℕ) → length output ≤ max_outputs → (emptied_if m output n).next ≡ (unmapped_all m output output n).next
unfolding emptied_if
if_next m output n h = ap (λ (b : Bool). ((when b then done [] else emptied m output) n).next) (le-ltb max_outputs (length output) h) ∙ same_next m output n

module _ (m : Memory) (nets trits output : List ℕ) (st : machine.LogState) (z : lower_fallback_number st.next (given_of m nets trits) output ≡ 0) where
  abbrev M : Mem
  M = memory_of m nets trits

  abbrev B : Mem
  B = memory_of (bare_of m) nets trits

  abbrev t : Trace Driving
  t = unmap_all M output

  abbrev s : LogState
  s = state_of st

  few_outputs : length output ≤ max_outputs
  few_outputs = outputs_few M (ready st.next m nets trits output z) output (pass.good st.next m nets trits output z).two_not

  below : (t (start_net s)).next < X
  below =
      omega (arith, (rules_like M (ready st.next m nets trits output z) output (start_net s)).next_is, if_next M output (start_net s) few_outputs, empty_below M output (ready st.next m nets trits output z).reads_few s)

  chains : Chains t
  chains = chains_first st.next m nets trits output z

  -- what emit_unmap_all leaves
  gave : (room log after : List ℕ) (l1 : Lent) (start : LogState) → length room ≡ max_outputs → Gave (unmapped_all M output (sets room 0 output)) (record { log = log; state = start; name = 0 }) l1 after
      → Gave t (record { log = log; state = start; name = 0 }) l1 (record { memory = all_bare M; output = take (length output) after })
  gave room log after l1 start e g =
      unmap_all_gave M (ready st.next m nets trits output z) output room (record { log = log; state = start; name = 0 }) l1 after (omega (arith, few_outputs, e)) g

  pub dry_done : (room log after : List ℕ) (start r : machine.LogState) (front : List ℕ) → length room ≡ max_outputs → state_of start ≡ dry_start s
      → Gave (unmapped_all M output (sets room 0 output)) (lent start log) (lent r front) after → DryRun M output s (state_of r)
  dry_done room log after start r front e es g =
      let q : state_of r ≡ (run t (record { log = log; state = dry_start s; name = 0 })).state =
      ap (λ (x : Lent). x.state) (gave room log after (lent r front) (state_of start) e g).ran ∙ ap (λ (x : LogState). (run t (record { log = log; state = x; name = 0 })).state) es in
      record {
        full = λ o. over_full t s chains below log (sym (ap is_over q) ∙ o);
        words_are = λ o. ap (λ (x : LogState). x.used) (q ∙ exact_state t s chains below log (sym (ap is_over q) ∙ o));
        next_is = λ o. ap (λ (x : LogState). x.next) (q ∙ exact_state t s chains below log (sym (ap is_over q) ∙ o));
        words-most = subst (λ (x : LogState). x.used ≤ max_words) (sym q) (run-most t (record { log = log; state = dry_start s; name = 0 }) (start_used t s chains below log));
      }

-- ---- no number refuses it
module _ (m : Memory) (nets trits output : List ℕ) (st : machine.LogState) (log tables : List ℕ) (r : lower_fallback_refusal (length tables) (length log) (state_of st) (given_of m nets trits) output ≡ 0) where
  abbrev W : Mem
  W = memory_of m nets trits

  abbrev C : Mem
  C = memory_of (bare_of m) nets trits

  abbrev u : Trace Driving
  u = unmap_all W output

  abbrev k : ℕ
  k = st.next

  pub number : lower_fallback_number k (given_of m nets trits) output ≡ 0
  unfolding lower_fallback_refusal
  number = (else_zero (lower_fallback_number k (given_of m nets trits) output) _ r).0

  scratch_0 : lent_refusal (length tables) (fallback_scratch W) ≡ 0
  unfolding lower_fallback_refusal
  scratch_0 = (else_zero (lent_refusal (length tables) (fallback_scratch W)) _ (else_zero (lower_fallback_number k (given_of m nets trits) output) _ r).1).0

  enough : fallback_scratch W ≤ length tables
  unfolding no_room_of
  enough = ltb-false (length tables) (fallback_scratch W) (refused_not _ 20 0 (omega arith) scratch_0).0

  pub log_0 : log_refusal (length log) (state_of st) (lower_fallback W output) ≡ 0
  unfolding lower_fallback_refusal
  log_0 = (else_zero (lent_refusal (length tables) (fallback_scratch W)) _ (else_zero (lower_fallback_number k (given_of m nets trits) output) _ r).1).1

  module _ (w j : ℕ) (c : (outs : Value) → length outs ≡ output_len W → Counted (split_lowered C outs) w j) where
    fits : Fits (length log) (state_of st) (length (added (u (start_net (state_of st)))) + w) ((u (start_net (state_of st))).next - start_net (state_of st) + j)
    fits = room_fits (length log) (state_of st) _ _ (sym (whole_refusal k m nets trits output number w j c (length log) (state_of st)) ∙ log_0)

    start_is : start_net (state_of st) ≡ k
    start_is = start_same (state_of st) fits.low (omega (arith, fits.high))

    fits_at : Fits (length log) (state_of st) (length (added (u k)) + w) ((u k).next - k + j)
    fits_at = subst (λ (n : ℕ). Fits (length log) (state_of st) (length (added (u n)) + w) ((u n).next - n + j)) start_is fits

    first_0 : log_refusal (length log) (state_of st) u ≡ 0
    unfolding log_refusal
    first_0 =
        sym (room_0 (length log) (state_of st) (length (added (u (start_net (state_of st))))) ((u (start_net (state_of st))).next - start_net (state_of st)) (omega (arith, fits.space, fits.short)) fits.low (omega (arith, fits.high)))

    module _ (room after : List ℕ) (s1 : machine.LogState) (log1 : List ℕ) (er : length room ≡ max_outputs) (g : Gave (unmapped_all W output (sets room 0 output)) (lent st log) (lent s1 log1) after) where
      given : Gave u (lent st log) (lent s1 log1) (record { memory = all_bare W; output = take (length output) after })
      given = gave m nets trits output st number room log after (lent s1 log1) (state_of st) er g

      not_over : is_over (state_of s1) ≡ false
      not_over = ap (λ (x : Lent). is_over x.state) given.ran ∙ accepted_held u (length log) (state_of st) log (chains_first k m nets trits output number) first_0

      state_is : state_of s1 ≡ state_after (state_of st) (u k)
      state_is = ap (λ (x : Lent). x.state) (given.ran ∙ accepted_run u (length log) (state_of st) log (chains_first k m nets trits output number) first_0)

      next_is : s1.next ≡ (u k).next
      next_is = ap (λ (x : LogState). x.next) state_is ∙ next_after (state_of st) (u k)

      used_is : s1.used ≡ st.used + length (added (u k))
      unfolding state_after
      used_is = ap (λ (x : LogState). x.used) state_is

      outs_are : take (length output) after ≡ (u k).value.output
      outs_are = ap (λ (x : Driving). x.output) (given.value not_over)

      -- the whole, from the run of what follows
      pub whole_ran : (l2 : Lent) → l2 ≡ run (split_lowered C (take (length output) after)) (lent s1 log1) → l2 ≡ run (lower_fallback W output) (lent st log)
      whole_ran l2 h =
          run_then (lent st log) (lent s1 log1) l2 u _ (u k).value (chains_first k m nets trits output number) given.ran (λ o. refl)
          (h ∙ ap (λ (v : Value). run (split_lowered C v) (lent s1 log1)) outs_are ∙ ap (λ (x : Trace Unit). run x (lent s1 log1)) (sym (rest_at k m nets trits output number k)))
          ∙ ap (λ (x : Trace Unit). run x (lent st log)) (sym (whole_is k m nets trits output number))

      low_nets : (u k).next ≤ max_nets
      low_nets = omega (arith, fits_at.high, unmapped_next k m nets trits output number k)

  -- ---- width 0
  module _ (w : m.width ≡ 0) (room after : List ℕ) (s1 : machine.LogState) (log1 : List ℕ) (er : length room ≡ max_outputs) (g : Gave (unmapped_all W output (sets room 0 output)) (lent st log) (lent s1 log1) after) where
    flat_width : W.width ≡ 0
    flat_width = pass.mem_width k m nets trits output number ∙ w

    none_ran : lent s1 log1 ≡ run (done [] >>= lower_rows) (lent s1 log1)
    unfolding done
    none_ran =
        run_then (lent s1 log1) (lent s1 log1) (lent s1 log1) (done []) lower_rows [] (chains_done []) (sym (run-done [] (lent s1 log1))) (λ o. refl)
        (sym (ap (λ (x : Trace Unit). run x (lent s1 log1)) none_lower ∙ run-done tt (lent s1 log1)))

    pub flat_ran : lent s1 log1 ≡ run (lower_fallback W output) (lent st log)
    flat_ran =
        whole_ran 0 0 (flat_rest k m nets trits output number flat_width) room after s1 log1 er g (lent s1 log1)
        (none_ran ∙ ap (λ (x : Trace Unit). run x (lent s1 log1)) (sym (flat_is k m nets trits output number (take (length output) after) flat_width)))

  -- ---- rows
  module _ (w : m.width ≢ 0) (room after : List ℕ) (s1 : machine.LogState) (log1 : List ℕ) (sl : length log1 ≡ length log) (er : length room ≡ max_outputs)
      (g : Gave (unmapped_all W output (sets room 0 output)) (lent st log) (lent s1 log1) after) (n : ℕ) (en : n ≡ length output) (outs : Value) (eo : outs ≡ part 0 n after) where
    wide : W.width ≢ 0
    wide e = w (sym (pass.mem_width k m nets trits output number) ∙ e)

    rest : (v : Value) → length v ≡ output_len W → Counted (split_lowered C v) (split_words W + rows_words_of W) (split_nets W + rows_nets W)
    rest = wide_rest k m nets trits output number wide

    outs_cut : outs ≡ take (length output) after
    outs_cut = eo ∙ ap (λ (j : ℕ). take j after) en

    outs_is : outs ≡ (u k).value.output
    outs_is = outs_cut ∙ outs_are _ _ rest room after s1 log1 er g

    later : s1.next ≡ (u k).next
    later = next_is _ _ rest room after s1 log1 er g

    long : length outs ≡ output_len W
    long = ap length outs_is ∙ unmapped_long k m nets trits output number k

    fine : good_value s1.next outs ≡ true
    fine = (λ i. good_value (later i) (outs_is i)) ∙ unmapped_good k m nets trits output number k (omega arith) (low_nets _ _ rest room after s1 log1 er g)

    bits_few : W.depth * W.width ≤ max_bits
    bits_few =
        omega (arith, (pass.sized k m nets trits output number).bits_ok, same)
      where
        same : W.depth * W.width ≡ m.depth * m.width
        same = λ i. pass.mem_depth_lem k m nets trits output number i * pass.mem_width k m nets trits output number i

    rest_0 : room_refusal (length log1) (state_of s1) (split_words W) (split_nets W) ≡ 0
    rest_0 =
        let f = fits_at _ _ rest in
        sym (room_0 (length log1) (state_of s1) (split_words W) (split_nets W) (omega (arith, f.space, f.short, sl, used_is _ _ rest room after s1 log1 er g))
        (omega (arith, f.low, later, unmapped_next k m nets trits output number k)) (omega (arith, f.high, later, unmapped_next k m nets trits output number k)))

    passes : swizzle_refusal (rooms tables) (length log1) (state_of s1) (given_of (bare_of m) nets trits) outs (fallback_plan C) ≡ 0
    passes =
        bare_refusal k m nets trits output number wide (rooms tables) (length log1) (state_of s1) (omega (arith, later, unmapped_next k m nets trits output number k)) outs long fine bits_few enough bits_few
        ∙ counted_refusal _ (split_words W) (split_nets W) (swizzle_counted k m nets trits output number wide outs long) (length log1) (state_of s1) ∙ rest_0

    pub rows_ready : Ready m nets trits outs s1 log1 tables
    rows_ready = record {
      next = k;
      output = output;
      number = number;
      later = omega (arith, later, unmapped_next k m nets trits output number k);
      width_some = w;
      outs_long = long;
      outs_good = fine;
      passes = passes;
    }

    pub rows_ran : (l2 : Lent) → l2 ≡ run (split_lowered C outs) (lent s1 log1) → l2 ≡ run (lower_fallback W output) (lent st log)
    rows_ran l2 h = whole_ran _ _ rest room after s1 log1 er g l2 (h ∙ ap (λ (v : Value). run (split_lowered C v) (lent s1 log1)) outs_cut)
