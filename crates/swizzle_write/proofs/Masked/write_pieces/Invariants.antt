-- The invariants of `swizzle_write::Masked::write_pieces`.
use Rattle.log_entries.specs.View.{lent_of}
use Rattle.swizzle_columns.specs.Wide.{port_starts}
use Rattle.swizzle_write.proofs.Going.{Going}
use Rattle.swizzle_write.proofs.Masked.write_pieces.Given as goal

abbrev pub invariant-loop-x : goal.invariant-loop-x
invariant-loop-x l = Going l.self.port.mems l.self.port.rows l.self.port.unit l.self.per_row (port_starts l.self.port l.self.per_row) l.self.mux.now l.self.row.now l.self.port.pieces l.initial.to l.to (lent_of l.initial.log) (lent_of l.log) l.x
