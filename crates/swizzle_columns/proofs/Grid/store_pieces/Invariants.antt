-- The invariants of `swizzle_columns::Grid::store_pieces`.
use mathlib.Core.Path.{◌≡◌}
use Prim.Native.Nat.{◌-◌, ◌≤◌}
use lib.ListN.{length}
use Rattle.lists.specs.Lists.{up_from}
use Rattle.swizzle_laws.specs.Stores.{spill_each}
use Rattle.swizzle_columns.specs.Rows.{starts_by}
use Rattle.swizzle_columns.proofs.Grid.store_pieces.Given as goal

abbrev pub invariant-loop-x : goal.invariant-loop-x
invariant-loop-x g l = (l.x ≤ l.pieces) × (length l.to ≡ length l.initial.to) × (length l.starts ≡ length l.initial.starts) × (spill_each l.self.mems l.self.rows l.self.unit l.self.entries (starts_by l.self.chunks l.self.columns l.self.entries (length l.initial.starts)) (up_from l.x (l.pieces - l.x)) l.v l.to ≡ spill_each l.self.mems l.self.rows l.self.unit l.self.entries (starts_by l.self.chunks l.self.columns l.self.entries (length l.initial.starts)) (up_from 0 l.pieces) l.v l.initial.to)
