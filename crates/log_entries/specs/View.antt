-- The machine's log state and its entries' kinds in terms of the rules.
use Rattle.std.specs.Prelude.{ℕ, List}
use Rattle.rules.specs.Log as rules
use Rattle.log_entries.specs.Emission.{Lent}
use Rattle.log_entries.specs.declared.LogState.{LogState}
use Rattle.log_entries.specs.declared.Log.{Log}
use Rattle.log_entries.specs.declared.Kind.{Kind}
use Rattle.log_entries.specs.declared.Kind.TheVariants.{Void, Not, And, Or, Mux, Eq, Shl, Ushr, Dff, Replace}

abbrev pub state_of : LogState → rules.LogState
state_of s = record { used = s.used; next = s.next }

-- the machine's state and a log's words, without a name
abbrev pub lent : LogState → List ℕ → Lent
lent s l = record { log = l; state = state_of s; name = 0 }

-- what a log holds
abbrev pub lent_of : Log → Lent
lent_of g = record { log = g.words.now; state = state_of g.state; name = g.words.ghost_name }

-- the kind of an entry, as `encode` has it
abbrev pub kind_word : Kind → ℕ
kind_word Void = 1
kind_word Not = 2
kind_word And = 3
kind_word Or = 4
kind_word Mux = 5
kind_word Eq = 6
kind_word Shl = 7
kind_word Ushr = 8
kind_word Dff = 9
kind_word Replace = 10
