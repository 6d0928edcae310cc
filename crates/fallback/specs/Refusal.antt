-- The refusal of a fallback: what its parts are asked and what they leave.
use Rattle.std.specs.Prelude.{◌≡◌, ◌≢◌, ℕ, ◌+◌, ◌<◌, ◌≤◌, min, true, false, List, length}
use Rattle.rules.specs.Limits.{max_nets, max_words}
use Rattle.rules.specs.Value.{Value}
use Rattle.rules.specs.Cell.{Mem}
use Rattle.rules.specs.Log.{LogState, start_net, added}
use Rattle.rules.specs.Ports.{unmap_all}
use Rattle.rules.specs.Fallback.{fallback_scratch}
use Rattle.rules.specs.Refusals.{lower_fallback_number}
use Rattle.log_entries.specs.Emission.{is_over}
use Rattle.log_entries.specs.declared.LogState as machine
use Rattle.net_memory.specs.declared.Memory.{Memory}
use Rattle.net_memory.specs.View.{memory_of}
use Rattle.net_memory.specs.Given.{given_of}

-- the next free net after so many more
pub record Later (next made r : ℕ) : Type 0 where
  pub low : next < 2 → r ≡ next
  pub high : max_nets < next → r ≡ next
  pub more : 2 ≤ next → next ≤ max_nets → r ≡ next + min made (max_nets + 1)

-- no number of the input refuses it, and there is room for the tables
pub record Asked (m : Memory) (nets trits output : List ℕ) (st : machine.LogState) (tables : ℕ) : Type 0 where
  pub number : lower_fallback_number st.next (given_of m nets trits) output ≡ 0
  pub room : fallback_scratch (memory_of m nets trits) ≤ tables

-- a memory of some width: one of width 0 is not split
abbrev pub HasWidth : Memory → Type 0
HasWidth m = m.width ≢ 0

-- the state after a run of the unmappings without a log: their words and the net after them, or more words than a log has
pub record DryRun (m : Mem) (output : Value) (s dry : LogState) : Type 0 where
  pub full : is_over dry ≡ true → max_words < length (added (unmap_all m output (start_net s)))
  pub words_are : is_over dry ≡ false → dry.used ≡ length (added (unmap_all m output (start_net s)))
  pub next_is : is_over dry ≡ false → dry.next ≡ (unmap_all m output (start_net s)).next
  pub words-most : dry.used ≤ max_words
