-- What a swizzle makes, with the lent arrays.
use Rattle.std.specs.Prelude.{ℕ, List}
use Rattle.log_entries.specs.declared.LogState.{LogState}
use Rattle.log_entries.specs.Emission.{Lent}
use Rattle.log_entries.specs.View.{lent}
use Rattle.swizzle_reads.specs.Going.{Going}
use Rattle.swizzle_rows.specs.Rows.{no_memories}
use Rattle.swizzle_call.specs.declared.Made.{Made}

-- the log, the nets and the trits that it was made with; the rooms without names
abbrev pub left_by : Lent → Made → List ℕ → List ℕ → Going
left_by l g nets trits = record { lent = l; nets = nets; nets_name = 0; trits = trits; trits_name = 0; nets_at_of = g.nets_at; trits_at_of = g.trits_at; memory = g.memory }

-- the same with the log's state in it
abbrev pub made_of : Made → List ℕ → List ℕ → List ℕ → Going
made_of g log nets trits = left_by (lent g.state log) g nets trits

-- no memories
abbrev pub none_yet_of : LogState → Made
none_yet_of st = record { state = st; memory = no_memories; nets_at = 0; trits_at = 0 }
