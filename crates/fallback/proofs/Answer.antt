-- What a fallback gives and leaves, field by field, is its whole answer in the rules.
use mathlib.Core.Path.{◌≡◌, refl, sym, ap, ◌∙◌}
use mathlib.Core.Logic.{◌≢◌, ⊎_elim}
use Prim.Native.Nat.{ℕ, zero, suc, ◌<◌, ◌≤◌}
use native.Mathlib.Nat.{eq-zero-or-pos}
use native.Mathlib.Omega.{arith}
use mathlib.Core.List.{List}
use lib.ListN.{length, drop}
use borrow.Author.Tests.{lt-ltb, le-ltb}
use Rattle.lists.specs.Choice.{leaves}
use Rattle.lists.proofs.Choice.{else_first, else_rest, leaves_refused, leaves_accepted}
use Rattle.rules.specs.Cell.{Mem}
use Rattle.rules.specs.Log.{Trace, log_after, state_after}
use Rattle.rules.specs.Conditions.{no_room_of}
use Rattle.rules.specs.Fallback.{lower_fallback, fallback_scratch}
use Rattle.rules.specs.Refusals.{log_refusal, lent_refusal, lower_fallback_number, lower_fallback_refusal}
use Rattle.rules.specs.Beside.Chain.{Chains}
use Rattle.rules.specs.Answers.{Answer, Refused, Accepted, answer_of, After, Logged, after, logged, lower_fallback_call}
use Rattle.rules.specs.Answers as answers
use Rattle.rules.specs.Refusal.{number as number_by}
use Rattle.rules.specs.declared.numbers.Refusal.{Refusal}
use Rattle.std.specs.Prelude.{Err}
use Rattle.rules.proofs.Answers.{answer_refused, number_nonzero}
use Rattle.log_entries.specs.declared.LogState.{LogState}
use Rattle.log_entries.specs.Emission.{Lent, run}
use Rattle.log_entries.specs.View.{state_of, lent}
use Rattle.log_entries.proofs.Emission.{accepted_run}
use Rattle.net_memory.specs.declared.Memory.{Memory}
use Rattle.net_memory.specs.View.{memory_of}
use Rattle.net_memory.specs.Given.{given_of}
use Rattle.fallback.specs.Refusal.{Asked}
use Rattle.fallback.specs.Answer.{Left, left_by, lowered_of, Unchanged, Changed, Lowers}
use Rattle.fallback.proofs.Total.{wide_rest, flat_rest, chains_whole}
use Rattle.fallback.proofs.Acts as acts

by_number : {P : Type 0} (n : ℕ) → (n ≡ 0 → P) → (n ≢ 0 → P) → P
by_number zero f g = f refl
by_number (suc n) f g = g (λ e. omega arith)

-- ---- the number
module _ (m : Memory) (nets trits output : List ℕ) (st : LogState) (room tables : ℕ) where
  abbrev number : ℕ
  number = lower_fallback_number st.next (given_of m nets trits) output

  abbrev need : ℕ
  need = fallback_scratch (memory_of m nets trits)

  abbrev whole : ℕ
  whole = lower_fallback_refusal tables room (state_of st) (given_of m nets trits) output

  pub whole_number : (n : ℕ) → n ≡ number → n ≢ 0 → n ≡ whole
  unfolding lower_fallback_refusal
  whole_number n e h = e ∙ sym (else_first number _ (λ z. h (e ∙ z)))

  short_room : tables < need → lent_refusal tables need ≡ 20
  unfolding no_room_of
  short_room h = rw (lt-ltb tables need h)

  long_room : need ≤ tables → lent_refusal tables need ≡ 0
  unfolding no_room_of
  long_room h = rw (le-ltb tables need h)

  pub whole_scratch : number ≡ 0 → tables < need → 20 ≡ whole
  unfolding lower_fallback_refusal
  whole_scratch z h = sym (else_rest number _ z ∙ else_first (lent_refusal tables need) _ (λ e. omega (arith, short_room h, e)) ∙ short_room h)

  pub whole-log : number ≡ 0 → need ≤ tables → (n : ℕ) → n ≡ log_refusal room (state_of st) (lower_fallback (memory_of m nets trits) output) → n ≡ whole
  unfolding lower_fallback_refusal
  whole-log z h n e = e ∙ sym (else_rest number _ z ∙ else_rest (lent_refusal tables need) _ (long_room h))

-- ---- the one equation
module _ (m : Memory) (nets trits output : List ℕ) (st : LogState) (log scratch : List ℕ) (x : Left) (log' scratch' : List ℕ) where
  abbrev M : Mem
  M = memory_of m nets trits

  abbrev t : Trace Unit
  t = lower_fallback M output

  abbrev N : ℕ
  N = lower_fallback_refusal (length scratch) (length log) (state_of st) (given_of m nets trits) output

  -- the rules' answer with its number out of the way
  abbrev answer : ℕ → answers.Lowered
  answer n = record {
    logged = record { answer = answer_of n (record { value = (t st.next).value; state = state_after (state_of st) (t st.next) }); log = leaves n log (log_after log (state_of st) (t st.next)) };
    scratch_kept_of = leaves n scratch (drop (fallback_scratch M) scratch);
  }

  call_is : lower_fallback_call scratch log (state_of st) (given_of m nets trits) output ≡ answer N
  unfolding lower_fallback_call logged after
  call_is = refl

  chains : N ≡ 0 → Chains t
  chains z =
      let k = acts.number m nets trits output st log scratch z in
      ⊎_elim (λ e. chains_whole st.next m nets trits output k 0 0 (flat_rest st.next m nets trits output k e))
      (λ p. chains_whole st.next m nets trits output k _ _ (wide_rest st.next m nets trits output k (λ e. omega (arith, p, e))))
      (eq-zero-or-pos M.width)

  after_is : N ≡ 0 → lent x.state log' ≡ run t (lent st log) → lent x.state log' ≡ record { log = log_after log (state_of st) (t st.next); state = state_after (state_of st) (t st.next); name = 0 }
  after_is z e = e ∙ accepted_run t (length log) (state_of st) log (chains z) (acts.log_0 m nets trits output st log scratch z)

  module _ (n : ℕ) (e : x.refusal ≡ n) where
    accepted_is : (z : n ≡ 0) → N ≡ 0 → Changed m nets trits output st log scratch x log' scratch' → lowered_of x (fallback_scratch M) log' scratch' ≡ answer n
    accepted_is z zn c =
        let a = after_is zn c.log_is in
        λ i. record {
          logged = record { answer = answer_of (e i) (record { value = tt; state = (a i).state }); log = (ap (λ (l : Lent). l.log) a ∙ sym (leaves_accepted n log (log_after log (state_of st) (t st.next)) z)) i };
          scratch_kept_of = (leaves_accepted x.refusal scratch' _ (e ∙ z) ∙ c.scratch_kept ∙ sym (leaves_accepted n scratch (drop (fallback_scratch M) scratch) z)) i;
        }

    refused_is : x.refusal ≢ 0 → n ≢ 0 → Unchanged st log scratch x log' scratch' → lowered_of x (fallback_scratch M) log' scratch' ≡ answer n
    refused_is r z u = λ i. record {
      logged = record {
        answer = (answer_refused x.refusal (record { value = tt; state = state_of x.state }) r ∙ ap Refused e ∙ sym (answer_refused n (record { value = (t st.next).value; state = state_after (state_of st) (t st.next) }) z)) i;
        log = (u.log_is ∙ sym (leaves_refused n log (log_after log (state_of st) (t st.next)) z)) i;
      };
      scratch_kept_of = (leaves_refused x.refusal scratch' (drop (fallback_scratch M) scratch') r ∙ u.scratch_is ∙ sym (leaves_refused n scratch (drop (fallback_scratch M) scratch) z)) i;
    }

  pub whole_answer : Lowers m nets trits output st log scratch x log' scratch' → lowered_of x (fallback_scratch M) log' scratch' ≡ lower_fallback_call scratch log (state_of st) (given_of m nets trits) output
  whole_answer h =
      by_number x.refusal (λ z. accepted_is N h.number (sym h.number ∙ z) (sym h.number ∙ z) (h.accepted z)) (λ r. refused_is N h.number r (λ z. r (h.number ∙ z)) (h.refused r))
      ∙ sym call_is

-- both promises of the call
pub promises : {m : Memory} {nets trits output : List ℕ} {st : LogState} {log scratch : List ℕ} {x : Left} {log' scratch' : List ℕ} → Lowers m nets trits output st log scratch x log' scratch'
    → (lowered_of x (fallback_scratch (memory_of m nets trits)) log' scratch' ≡ lower_fallback_call scratch log (state_of st) (given_of m nets trits) output)
    × Lowers m nets trits output st log scratch x log' scratch'
promises {m = m} {nets = nets} {trits = trits} {output = output} {st = st} {log = log} {scratch = scratch} {x = x} {log' = log'} {scratch' = scratch'} h =
    (whole_answer m nets trits output st log scratch x log' scratch' h, h)

-- refused, with nothing changed
pub kept : (m : Memory) (nets trits output : List ℕ) (st : LogState) (log scratch : List ℕ) (e : Refusal) → number_by e ≡ lower_fallback_refusal (length scratch) (length log) (state_of st) (given_of m nets trits) output
    → Lowers m nets trits output st log scratch (left_by st (Err e)) log scratch
kept m nets trits output st log scratch e h = record {
  number = h;
  refused = λ r. record { log_is = refl; scratch_is = refl; state_is = refl };
  accepted = λ z. absurd (number_nonzero e z);
}

-- by a number of the input, by the log's, and where the scratch is short
module _ (m : Memory) (nets trits output : List ℕ) (st : LogState) (log scratch : List ℕ) (e : Refusal) where
  pub kept_input : number_by e ≡ lower_fallback_number st.next (given_of m nets trits) output → Lowers m nets trits output st log scratch (left_by st (Err e)) log scratch
  kept_input h = kept m nets trits output st log scratch e (whole_number m nets trits output st (length log) (length scratch) _ h (number_nonzero e))

  pub kept_log : Asked m nets trits output st (length scratch) → number_by e ≡ log_refusal (length log) (state_of st) (lower_fallback (memory_of m nets trits) output) → Lowers m nets trits output st log scratch (left_by st (Err e)) log scratch
  kept_log a h = kept m nets trits output st log scratch e (whole-log m nets trits output st (length log) (length scratch) a.number a.room _ h)
