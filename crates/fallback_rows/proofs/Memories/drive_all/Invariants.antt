-- The invariants of `fallback_rows::Memories::drive_all`.
use lib.ListN.{take}
use Rattle.log_entries.specs.View.{lent_of}
use Rattle.fallback_rows.proofs.Rows.{Driving}
use Rattle.fallback_rows.proofs.Memories.drive_all.Given as goal

abbrev pub invariant-loop-port : goal.invariant-loop-port
invariant-loop-port l = Driving l.self.g l.n (take l.self.g.unit l.held) l.count (lent_of l.initial.log) l.port-index (lent_of l.log)
