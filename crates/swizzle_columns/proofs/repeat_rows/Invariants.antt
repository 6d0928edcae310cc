-- The invariants of `swizzle_columns::repeat_rows`.
use mathlib.Core.Path.{◌≡◌}
use Prim.Native.Nat.{◌*◌, ◌≤◌}
use lib.ListN.{length}
use lib.Seq.{sets}
use Rattle.rules.specs.Limits.{X}
use Rattle.rules.specs.Swizzle.{repeating}
use Rattle.swizzle_columns.specs.Rows.{all_sources}
use Rattle.swizzle_columns.proofs.Rows.{from_row_of}
use Rattle.swizzle_columns.proofs.repeat_rows.Given as goal

abbrev pub invariant-loop-j : goal.invariant-loop-j
invariant-loop-j l = (l.j ≤ l.olds) × (length l.out ≡ length l.initial.out) × (sets l.out (l.j * length l.entries) (repeating l.last (from_row_of l.olds l.width l.entries l.j) l.v) ≡ sets l.initial.out 0 (repeating X (all_sources l.olds l.width l.entries) l.v))
