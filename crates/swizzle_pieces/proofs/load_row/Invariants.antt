-- The invariants of `swizzle_pieces::load_row`.
use Rattle.swizzle_laws.specs.Loads.{restore_from}
use mathlib.Core.Path.{◌≡◌}
use Prim.Native.Nat.{◌+◌}
use lib.ListN.{drop}
use Rattle.swizzle_pieces.proofs.load_row.Given as goal

abbrev pub invariant-loop-i : goal.invariant-loop-i
invariant-loop-i l = restore_from l.at (drop l.i l.entries) (l.first + l.i) l.scratch ≡ restore_from l.at l.entries l.first l.initial.scratch
