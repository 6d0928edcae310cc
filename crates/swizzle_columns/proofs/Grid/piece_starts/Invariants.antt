-- The invariants of `swizzle_columns::Grid::piece_starts`.
use mathlib.Core.Path.{◌≡◌}
use Prim.Native.Nat.{◌≤◌}
use lib.ListN.{length, take}
use lib.Seq.{sets}
use Rattle.swizzle_columns.specs.Rows.{starts_by}
use Rattle.swizzle_columns.proofs.Grid.piece_starts.Given as goal

abbrev pub invariant-loop-j : goal.invariant-loop-j
invariant-loop-j l = (l.j ≤ length l.initial.starts) × (length l.starts ≡ length l.initial.starts) × (l.starts ≡ sets l.initial.starts 0 (take l.j (starts_by l.fn.self.chunks l.fn.self.columns l.fn.self.entries (length l.initial.starts) l.x)))
