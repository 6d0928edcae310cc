-- How a machine's answer reads: document 01's number, or a value with the state after the call; and with it the lent log.
use Rattle.std.specs.Prelude.{ℕ, List, [], ◌∷◌, Result}
use Rattle.rules.specs.Value.{Value}
use Rattle.rules.specs.Cell as cell
use Rattle.rules.specs.Answers as rules
use Rattle.rules.specs.Refusal.{answer_by}
use Rattle.rules.specs.declared.numbers.Refusal.{Refusal}
use Rattle.net_value.specs.declared.Net.{Net}
use Rattle.net_flip_flop.specs.declared.Controls.{Controls}
use Rattle.net_flip_flop.specs.View.{controls_of}
use Rattle.log_entries.specs.declared.LogState.{LogState}
use Rattle.log_entries.specs.View.{state_of}
use Rattle.log_requests.specs.declared.After.{After}

module _ {A : Type 0} where
  -- a request's results are known before it is made: v is the value where it is accepted
  abbrev pub request_of : A → Result LogState Refusal → rules.Answer (rules.After A)
  request_of v r = answer_by (λ s. record { value = v; state = state_of s }) r

  abbrev pub logged_of : A → Result LogState Refusal → List ℕ → rules.Logged A
  logged_of v r log = record { answer = request_of v r; log = log }

-- a request that says what it gives: f is how the machine's value reads
module _ {A B : Type 0} (f : A → B) where
  abbrev pub after_of : Result (After A) Refusal → rules.Answer (rules.After B)
  after_of r = answer_by (λ a. record { value = f a.value; state = state_of a.state }) r

-- into_pos gives a net
abbrev pub net_answer_of : Result (After Net) Refusal → rules.Answer (rules.After Value)
net_answer_of = after_of (λ n. n.0 ∷ [])

abbrev pub net_logged_of : Result (After Net) Refusal → List ℕ → rules.Logged Value
net_logged_of r log = record { answer = net_answer_of r; log = log }

-- remap_reset_over_enable gives controls
abbrev pub controls_answer_of : Result (After Controls) Refusal → rules.Answer (rules.After cell.Controls)
controls_answer_of = after_of controls_of

abbrev pub controls_logged_of : Result (After Controls) Refusal → List ℕ → rules.Logged cell.Controls
controls_logged_of r log = record { answer = controls_answer_of r; log = log }
