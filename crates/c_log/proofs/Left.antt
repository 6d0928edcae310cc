-- How the struct of an answer, the log and the room for result nets join to what a request or a merge leaves.
use mathlib.Core.Path.{◌≡◌, refl, ap, ◌∙◌}
use Prim.Native.Nat.{ℕ}
use mathlib.Core.List.{List}
use Rattle.rules.specs.Value.{Value}
use Rattle.rules.specs.Answers as rules
use Rattle.rules.proofs.Answers.{answer_refused, answer_accepted, number_nonzero}
use Rattle.log_entries.specs.View.{state_of}
use Rattle.log_entries.specs.declared.LogState as machine
use Rattle.std.specs.Prelude.{Result, Ok, Err}
use Rattle.rules.specs.Refusal as refusal
use Rattle.rules.specs.declared.numbers.Refusal.{Refusal}
use Rattle.log_requests.specs.Answers.{request_of, logged_of}
use Rattle.log_requests.specs.Merged.{merged_of}
use Rattle.c_log.specs.View.{logged_struct, left_by, merge_left_by}
use Rattle.c_log.specs.declared.Logged.{Logged}

module _ {A : Type 0} (v : A) (st : machine.LogState) where
  -- no refusal has the number 0, so the struct says whether it is one
  answered : (p : Result machine.LogState Refusal) → rules.answer_of (logged_struct st p).number v ≡ rules.value_of (request_of v p)
  answered (Err x) = answer_refused (refusal.number x) v (number_nonzero x)
  answered (Ok s) = answer_accepted 0 v refl

  given_back : (p : Result machine.LogState Refusal) → state_of (logged_struct st p).state ≡ rules.state_left (state_of st) (request_of v p)
  given_back (Err x) = refl
  given_back (Ok s) = refl

  -- the struct r of a request's answer p
  pub left : (r : Logged) (p : Result machine.LogState Refusal) (after : List ℕ) (call : rules.Logged A) → r ≡ logged_struct st p → logged_of v p after ≡ call
      → left_by v r after ≡ rules.lent_call (state_of st) call
  left r p after call d e =
      ap (λ (x : Logged). left_by v x after) d
      ∙ (λ i. record { answer = answered p i; state = given_back p i; log = after })
      ∙ ap (rules.lent_call (state_of st)) e

-- the same of a merge
pub merge_left : (v : Value) (st : machine.LogState) (r : Logged) (p : Result machine.LogState Refusal) (after out : List ℕ) (call : rules.Merged) → r ≡ logged_struct st p
    → merged_of v p after out ≡ call → merge_left_by v r after out ≡ rules.lent_merge (state_of st) call
merge_left v st r p after out call d e =
    (λ i. record { returned = left v st r p after (logged_of v p after) d refl i; out = out }) ∙ ap (rules.lent_merge (state_of st)) e
