-- How the answer of a request or a merge on a lent log state reads, with the state, the log and the room for results after it.
use Rattle.std.specs.Prelude.{ℕ, List, [], ◌∷◌, Result, Ok, Err}
use Rattle.lists.specs.Lists.{up_from}
use Rattle.rules.specs.Value.{Value}
use Rattle.rules.specs.Cell as cell
use Rattle.rules.specs.Answers.{Answer, Returned, ReturnedMerge}
use Rattle.net_flip_flop.specs.View.{controls_of}
use Rattle.log_entries.specs.declared.LogState as machine
use Rattle.log_entries.specs.View.{state_of}
use Rattle.net_value.specs.declared.Net.{Net}
use Rattle.net_flip_flop.specs.declared.Controls.{Controls}
use Rattle.rules.specs.Refusal.{answer_by}
use Rattle.rules.specs.declared.numbers.Refusal.{Refusal}
use Rattle.log_lent.specs.declared.NewNets.{NewNets}

module _ {A : Type 0} where
  -- the machine's state and log, with an answer
  abbrev pub returned : Answer A → machine.LogState → List ℕ → Returned A
  returned a s log = record { answer = a; state = state_of s; log = log }

-- a merge leaves its result nets in lent room
abbrev pub returned_merge : Answer Value → machine.LogState → List ℕ → List ℕ → ReturnedMerge
returned_merge a s log out = record { returned = returned a s log; out = out }

-- ---- the machine's answers
-- new nets, from the first one on
abbrev pub nets_of : Result NewNets Refusal → Answer Value
nets_of r = answer_by (λ n. up_from n.first n.width) r

-- one net: as a net, and as a value
abbrev pub net_of : Result Net Refusal → Answer ℕ
net_of r = answer_by (λ n. n.0) r

abbrev pub pos_of_of : Result Net Refusal → Answer Value
pos_of_of r = answer_by (λ n. n.0 ∷ []) r

abbrev pub no_nets : Value
no_nets = []

-- no value: v is that of an accepted call, no_nets or the nets that it stored in the room for results
abbrev pub none_of_of : Value → Result Unit Refusal → Answer Value
none_of_of v r = answer_by (λ u. v) r

abbrev pub new_controls_of : Result Controls Refusal → Answer cell.Controls
new_controls_of r = answer_by controls_of r

-- of a request that makes so many nets, by its core's answer
abbrev pub made_nets : machine.LogState → ℕ → Result machine.LogState Refusal → Result NewNets Refusal
made_nets s width (Ok r) = Ok (record { first = s.next; width = width })
made_nets s width (Err e) = Err e

abbrev pub state_then : machine.LogState → Result machine.LogState Refusal → machine.LogState
state_then s (Ok r) = r
state_then s (Err e) = s
