-- The invariants of `swizzle_columns::Grid::store_piece`.
use mathlib.Core.Path.{◌≡◌}
use Prim.Native.Nat.{◌*◌, ◌≤◌}
use lib.ListN.{length, drop}
use Rattle.swizzle_laws.specs.Stores.{spill_at}
use Rattle.swizzle_columns.proofs.Grid.store_piece.Given as goal

abbrev pub invariant-loop-j : goal.invariant-loop-j
invariant-loop-j g l = (l.j ≤ length l.starts) × (length l.to ≡ length l.initial.to) × (spill_at l.self.mems l.self.rows l.self.unit l.self.entries (drop l.j l.starts) (drop (l.j * l.self.entries) l.v) l.to ≡ spill_at l.self.mems l.self.rows l.self.unit l.self.entries l.starts l.v l.initial.to)
