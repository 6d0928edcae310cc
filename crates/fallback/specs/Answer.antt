-- The whole answer of a fallback, and the same field by field.
use Rattle.std.specs.Prelude.{◌≡◌, ◌≢◌, ℕ, List, length, drop, Result, Ok, Err}
use Rattle.lists.specs.Choice.{leaves}
use Rattle.rules.specs.Fallback.{lower_fallback, fallback_scratch}
use Rattle.rules.specs.Refusals.{lower_fallback_refusal}
use Rattle.rules.specs.Answers as rules
use Rattle.log_entries.specs.declared.LogState.{LogState}
use Rattle.log_entries.specs.Emission.{run}
use Rattle.log_entries.specs.View.{state_of, lent}
use Rattle.net_memory.specs.declared.Memory.{Memory}
use Rattle.net_memory.specs.View.{memory_of}
use Rattle.net_memory.specs.Given.{given_of}
use Rattle.rules.specs.declared.numbers.Refusal.{Refusal}
use Rattle.rules.specs.Refusal.{number}

-- what a call leaves: its number, 0 where it is accepted, and the log's state
pub record Left : Type 0 where
  pub refusal : ℕ
  pub state : LogState

-- of an answer, where the state was `st` before
abbrev pub left_by : LogState → Result LogState Refusal → Left
left_by st (Ok s) = record { refusal = 0; state = s }
left_by st (Err e) = record { refusal = number e; state = st }

-- of the scratch an accepted call keeps what lies past `need`
abbrev pub lowered_of : Left → ℕ → List ℕ → List ℕ → rules.Lowered
lowered_of x need log scratch = record {
  logged = record { answer = rules.answer_of x.refusal (record { value = tt; state = state_of x.state }); log = log };
  scratch_kept_of = leaves x.refusal scratch (drop need scratch);
}

-- refused: every word and the state as they were
pub record Unchanged (st : LogState) (log scratch : List ℕ) (x : Left) (log' scratch' : List ℕ) : Type 0 where
  pub log_is : log' ≡ log
  pub scratch_is : scratch' ≡ scratch
  pub state_is : x.state ≡ st

-- accepted: the log's words and state by the rules' trace
pub record Changed (m : Memory) (nets trits output : List ℕ) (st : LogState) (log scratch : List ℕ) (x : Left) (log' scratch' : List ℕ) : Type 0 where
  pub log_is : lent x.state log' ≡ run (lower_fallback (memory_of m nets trits) output) (lent st log)
  pub scratch_kept : drop (fallback_scratch (memory_of m nets trits)) scratch' ≡ drop (fallback_scratch (memory_of m nets trits)) scratch

-- the number, and the one or the other
pub record Lowers (m : Memory) (nets trits output : List ℕ) (st : LogState) (log scratch : List ℕ) (x : Left) (log' scratch' : List ℕ) : Type 0 where
  pub number : x.refusal ≡ lower_fallback_refusal (length scratch) (length log) (state_of st) (given_of m nets trits) output
  pub refused : x.refusal ≢ 0 → Unchanged st log scratch x log' scratch'
  pub accepted : x.refusal ≡ 0 → Changed m nets trits output st log scratch x log' scratch'
