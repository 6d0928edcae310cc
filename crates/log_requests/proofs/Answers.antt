-- How a call's number, state and log join to its answer.
use mathlib.Core.Path.{◌≡◌, refl, sym, ap, ◌∙◌}
use Prim.Native.Nat.{ℕ, ◌<◌}
use native.Mathlib.Omega.{arith}
use mathlib.Core.List.{List, []}
use lib.ListN.{length}
use borrow.Author.Tests.{ne_eqb}
use mathlib.Core.Bool.{false}
use Rattle.lists.specs.Choice.{◌or_else◌, leaves}
use Rattle.lists.proofs.Choice.{else_rest, else_same, else_zero}
use Rattle.rules.specs.Limits.{X}
use Rattle.lists.specs.Lists.{up_from}
use Rattle.rules.specs.Value.{Value}
use Rattle.rules.specs.Log.{Trace, request, add_not_of, add_and_of, add_or_of, add_eq_of, add_shl_of, add_ushr_of, replace_value_of, LogState, state_after, log_after}
use Rattle.rules.specs.Beside.Chain.{Chains}
use Rattle.rules.specs.Refusals.{room_refusal, log_refusal}
use Rattle.rules.specs.Answers as rules
use Rattle.rules.proofs.Counted.{Counted, counted_refusal}
use Rattle.log_entries.specs.Emission.{Lent, is_over, run}
use Rattle.log_entries.specs.View.{state_of, lent}
use Rattle.log_entries.specs.declared.LogState as machine
use Rattle.log_entries.proofs.Rooms.{Fits, room_fits}
use Rattle.log_entries.proofs.Emission.{ran, run_fits, accepted_run, accepted_held}
use Rattle.log_requests.specs.Answers.{logged_of}
use Rattle.rules.specs.Refusal as refusal
use Rattle.rules.specs.declared.numbers.Refusal.{Refusal}
use Rattle.rules.proofs.Answers.{number_nonzero}
use Rattle.std.specs.Prelude.{Ok, Err}

module _ {A : Type 0} (v : A) (N : ℕ) (log : List ℕ) (s : LogState) (t : Trace A) where
  -- a refused call
  pub refused : (x : Refusal) → refusal.number x ≡ N → logged_of v (Err x) log ≡ rules.logged N log s t
  unfolding rules.logged rules.answer_of leaves
  refused x e = rw (← e, ne_eqb (refusal.number x) 0 (number_nonzero x))

  -- an accepted one
  pub accepted : (after : List ℕ) (r : machine.LogState) → 0 ≡ N → v ≡ (t s.next).value → state_of r ≡ state_after s (t s.next) → after ≡ log_after log s (t s.next)
      → logged_of v (Ok r) after ≡ rules.logged N log s t
  unfolding rules.logged rules.answer_of rules.after leaves
  accepted after r z e f g = rw (← z) (λ i. record { answer = rules.Accepted (record { value = e i; state = f i }); log = g i })

-- ---- a trace of so many words and nets, after a number for the input
module _ {A : Type 0} (v : A) (t : Trace A) (w k number : ℕ) (c : number ≡ 0 → Counted t w k) (log : List ℕ) (s : LogState) where
  whole : (number or_else room_refusal (length log) s w k) ≡ (number or_else log_refusal (length log) s t)
  whole = else_same number _ _ (λ z. sym (counted_refusal t w k (c z) (length log) s))

  pub request_refused : (x : Refusal) → refusal.number x ≡ (number or_else room_refusal (length log) s w k)
      → logged_of v (Err x) log ≡ rules.logged (number or_else log_refusal (length log) s t) log s t
  request_refused x e = refused v _ log s t x (e ∙ whole)

  -- no number: it fits, and the run is the trace's
  pub request_fits : 0 ≡ (number or_else room_refusal (length log) s w k) → run t (record { log = log; state = s; name = 0 }) ≡ ran t (record { log = log; state = s; name = 0 })
  request_fits z =
      let o = else_zero number _ (sym z) in
      let d = c o.0 in
      let f : Fits (length log) s w k = room_fits (length log) s w k o.1 in
      run_fits t (record { log = log; state = s; name = 0 }) d.chain (rw (d.words s.next) f.short) (below d f)
    where
      below : Counted t w k → Fits (length log) s w k → (t s.next).next < X
      below d f = let x = d.nets s.next in let y = f.high in omega arith

  pub request_accepted : (after : List ℕ) (r : machine.LogState) → 0 ≡ (number or_else room_refusal (length log) s w k) → (number ≡ 0 → v ≡ (t s.next).value) → lent r after ≡ run t (record { log = log; state = s; name = 0 })
      → logged_of v (Ok r) after ≡ rules.logged (number or_else log_refusal (length log) s t) log s t
  request_accepted after r z g h =
      let q = h ∙ request_fits z in
      accepted v _ log s t after r (z ∙ whole) (g (else_zero number _ (sym z)).0) (ap (λ (x : Lent). x.state) q) (ap (λ (x : Lent). x.log) q)

-- ---- the result nets of each request
pub value_not : (a : Value) (n : ℕ) → up_from n (length a) ≡ (add_not_of a n).value
unfolding add_not_of request
value_not a n = refl

pub value_and : (a b : Value) (n : ℕ) → up_from n (length a) ≡ (add_and_of a b n).value
unfolding add_and_of request
value_and a b n = refl

pub value_or : (a b : Value) (n : ℕ) → up_from n (length a) ≡ (add_or_of a b n).value
unfolding add_or_of request
value_or a b n = refl

pub value_eq : (a b : Value) (n : ℕ) → n ≡ (add_eq_of a b n).value
unfolding add_eq_of
value_eq a b n = refl

pub value_shl : (stride : ℕ) (s a : Value) (n : ℕ) → up_from n (length a) ≡ (add_shl_of stride s a n).value
unfolding add_shl_of request
value_shl stride s a n = refl

pub value_ushr : (stride : ℕ) (s a : Value) (n : ℕ) → up_from n (length a) ≡ (add_ushr_of stride s a n).value
unfolding add_ushr_of request
value_ushr stride s a n = refl

pub value_replace : (from to : Value) (n : ℕ) → [] ≡ (replace_value_of from to n).value
unfolding replace_value_of request
value_replace from to n = refl

-- ---- a trace that is run dry first, after a number for the input that is 0
module _ {A : Type 0} (v : A) (t : Trace A) (c : Chains t) (number : ℕ) (z : 0 ≡ number) (log : List ℕ) (s : LogState) where
  dry_whole : {n : ℕ} → n ≡ log_refusal (length log) s t → n ≡ (number or_else log_refusal (length log) s t)
  dry_whole e = e ∙ sym (else_rest number _ (sym z))

  pub dry_refused : (x : Refusal) → refusal.number x ≡ log_refusal (length log) s t → logged_of v (Err x) log ≡ rules.logged (number or_else log_refusal (length log) s t) log s t
  dry_refused x e = refused v _ log s t x (dry_whole e)

  pub dry_accepted : (after : List ℕ) (r : machine.LogState) → 0 ≡ log_refusal (length log) s t → (is_over (state_of r) ≡ false → v ≡ (t s.next).value)
      → lent r after ≡ run t (record { log = log; state = s; name = 0 }) → logged_of v (Ok r) after ≡ rules.logged (number or_else log_refusal (length log) s t) log s t
  dry_accepted after r e g h =
      let x = sym e in
      let q = h ∙ accepted_run t (length log) s log c x in
      let o = ap (λ (m : Lent). is_over m.state) h ∙ accepted_held t (length log) s log c x in
      accepted v _ log s t after r (dry_whole e) (g o) (ap (λ (m : Lent). m.state) q) (ap (λ (m : Lent). m.log) q)
