-- How a merge's answer reads: a request's, and with it the room for its result nets.
use Rattle.std.specs.Prelude.{ℕ, List, Result}
use Rattle.rules.specs.Value.{Value}
use Rattle.rules.specs.Answers.{Merged}
use Rattle.rules.specs.declared.numbers.Refusal.{Refusal}
use Rattle.log_entries.specs.declared.LogState.{LogState}
use Rattle.log_requests.specs.Answers.{logged_of}

-- v is the value where it is accepted
abbrev pub merged_of : Value → Result LogState Refusal → List ℕ → List ℕ → Merged
merged_of v r log out = record { logged = logged_of v r log; out = out }
