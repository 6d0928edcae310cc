-- The invariants of `swizzle_columns::Grid::store_from`.
use mathlib.Core.Path.{◌≡◌}
use Prim.Native.Nat.{◌+◌}
use lib.ListN.{length, take}
use Rattle.swizzle_laws.specs.Order.{spill}
use Rattle.swizzle_columns.specs.Steps.{At}
use Rattle.swizzle_columns.proofs.Cursors.{left}
use Rattle.swizzle_columns.proofs.Grid.store_from.Given as goal

abbrev pub invariant-loop-bit : goal.invariant-loop-bit
invariant-loop-bit g l = (length l.to ≡ length l.initial.to) × At l.self (l.start + l.bit-index) l.c × (left l.self l.start l.to (take l.n l.v) l.bit-index ≡ spill l.self.mems l.self.rows l.self.unit l.initial.to l.start (take l.n l.v))
