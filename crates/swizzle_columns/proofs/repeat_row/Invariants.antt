-- The invariants of `swizzle_columns::repeat_row`.
use mathlib.Core.Path.{◌≡◌}
use Prim.Native.Nat.{◌+◌, ◌≤◌}
use lib.ListN.{length, drop}
use lib.Seq.{sets}
use Rattle.rules.specs.Swizzle.{repeating}
use Rattle.swizzle_columns.specs.Rows.{row_sources, last_of}
use Rattle.swizzle_columns.proofs.repeat_row.Given as goal

abbrev pub invariant-loop-i : goal.invariant-loop-i
invariant-loop-i l = (l.i ≤ length l.entries) × (length l.out ≡ length l.initial.out) × (sets l.out (l.at + l.i) (repeating l.last (drop l.i (row_sources l.base l.entries)) l.v) ≡ sets l.initial.out l.at (repeating l.before (row_sources l.base l.entries) l.v)) × (last_of l.last (drop l.i (row_sources l.base l.entries)) l.v ≡ last_of l.before (row_sources l.base l.entries) l.v)
