-- How a merge's numbers, state, log and result nets join to its answer.
use mathlib.Core.Path.{◌≡◌, refl, sym, ap, ◌∙◌}
use mathlib.Core.Logic.{◌≢◌}
use mathlib.Core.Bool.{false}
use Prim.Native.Nat.{ℕ, zero, suc}
use native.Mathlib.Omega.{arith}
use mathlib.Core.List.{List}
use lib.ListN.{length}
use lib.Seq.{sets}
use Rattle.lists.specs.Choice.{◌or_else◌, leaves}
use Rattle.lists.proofs.Choice.{else_first, else_rest, leaves_refused, leaves_accepted}
use Rattle.rules.specs.Value.{Value}
use Rattle.rules.specs.Log.{Trace, LogState}
use Rattle.rules.specs.Beside.Chain.{Chains}
use Rattle.rules.specs.Refusals.{log_refusal}
use Rattle.rules.specs.Answers as rules
use Rattle.log_entries.specs.Emission.{Lent, is_over, run}
use Rattle.log_entries.specs.View.{state_of, lent}
use Rattle.log_entries.specs.declared.LogState as machine
use Rattle.log_entries.proofs.Emission.{accepted_held}
use Rattle.log_requests.specs.Answers.{logged_of}
use Rattle.log_requests.specs.Merged.{merged_of}
use Rattle.rules.specs.Refusal as refusal
use Rattle.rules.specs.declared.numbers.Refusal.{Refusal}
use Rattle.rules.proofs.Answers.{refused_by}
use Rattle.std.specs.Prelude.{Ok, Err}
use Rattle.log_requests.proofs.Answers.{refused, dry_accepted}

else_assoc : (a b c : ℕ) → ((a or_else b) or_else c) ≡ (a or_else (b or_else c))
else_assoc zero b c = ap (λ (n : ℕ). n or_else c) (else_rest 0 b refl) ∙ sym (else_rest 0 (b or_else c) refl)
else_assoc (suc a) b c =
    ap (λ (n : ℕ). n or_else c) (else_first (suc a) b nonzero) ∙ else_first (suc a) c nonzero ∙ sym (else_first (suc a) (b or_else c) nonzero)
  where
    nonzero : suc a ≢ 0
    nonzero e = omega arith

module _ (v : Value) (log out : List ℕ) (s : LogState) (t : Trace Value) where
  -- a refused merge leaves the room as it was
  merge_refused : (N : ℕ) (x : Refusal) → refusal.number x ≡ N → merged_of v (Err x) log out ≡ rules.merged N out log s t
  unfolding rules.merged
  merge_refused N x e = λ i. record { logged = refused v N log s t x e i; out = sym (leaves_refused N out (sets out 0 (t s.next).value) (refused_by x N e)) i }

  -- the numbers of the input and of the room for the result, and that of the log
  module _ (input result : ℕ) where
    pub input_refused : (x : Refusal) → refusal.number x ≡ (input or_else result)
        → merged_of v (Err x) log out ≡ rules.merged (input or_else result or_else log_refusal (length log) s t) out log s t
    input_refused x e =
        merge_refused (input or_else result or_else log_refusal (length log) s t) x
        (e ∙ sym (else_first (input or_else result) (log_refusal (length log) s t) (refused_by x _ e)) ∙ else_assoc input result (log_refusal (length log) s t))

    module _ (z : 0 ≡ (input or_else result)) where
      whole : log_refusal (length log) s t ≡ (input or_else result or_else log_refusal (length log) s t)
      whole = sym (else_rest (input or_else result) (log_refusal (length log) s t) (sym z)) ∙ else_assoc input result (log_refusal (length log) s t)

      pub log_refused : (x : Refusal) → refusal.number x ≡ log_refusal (length log) s t
          → merged_of v (Err x) log out ≡ rules.merged (input or_else result or_else log_refusal (length log) s t) out log s t
      log_refused x e = merge_refused (input or_else result or_else log_refusal (length log) s t) x (e ∙ whole)

      pub merge_accepted : (log' out' : List ℕ) (r : machine.LogState) → Chains t → 0 ≡ log_refusal (length log) s t → v ≡ (t s.next).value
          → lent r log' ≡ run t (record { log = log; state = s; name = 0 }) → (is_over (state_of r) ≡ false → out' ≡ sets out 0 v)
          → merged_of v (Ok r) log' out' ≡ rules.merged (input or_else result or_else log_refusal (length log) s t) out log s t
      unfolding rules.merged
      merge_accepted log' out' r c y q h g =
          let o : is_over (state_of r) ≡ false = ap (λ (m : Lent). is_over m.state) h ∙ accepted_held t (length log) s log c (sym y) in
          let a = else_assoc input result (log_refusal (length log) s t) in
          let b : logged_of v (Ok r) log' ≡ rules.logged (input or_else result or_else log_refusal (length log) s t) log s t =
          dry_accepted v t c (input or_else result) z log s log' r y (λ x. q) h ∙ ap (λ (k : ℕ). rules.logged k log s t) a in
          let w : out' ≡ leaves (input or_else result or_else log_refusal (length log) s t) out (sets out 0 (t s.next).value) =
          g o ∙ ap (sets out 0) q ∙ sym (leaves_accepted (input or_else result or_else log_refusal (length log) s t) out (sets out 0 (t s.next).value) (sym (y ∙ whole))) in
          λ i. record { logged = b i; out = w i }
