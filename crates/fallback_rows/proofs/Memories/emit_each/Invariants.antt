-- The invariants of `fallback_rows::Memories::emit_each`.
use Rattle.log_entries.specs.View.{lent_of}
use Rattle.fallback_rows.proofs.Rows.{Lowering}
use Rattle.fallback_rows.proofs.Memories.emit_each.Given as goal

abbrev pub invariant-loop-n : goal.invariant-loop-n
invariant-loop-n l = Lowering l.self.g l.self.nets.now l.self.image.now l.self.g.mems (lent_of l.initial.log) l.n (lent_of l.log)
