-- The invariants of `swizzle_columns::arrange_row`.
use mathlib.Core.Path.{◌≡◌}
use Prim.Native.Nat.{◌≤◌}
use lib.ListN.{length, take}
use lib.Seq.{sets}
use Rattle.rules.specs.Swizzle.{arrange}
use Rattle.swizzle_columns.specs.Rows.{row_sources}
use Rattle.swizzle_columns.proofs.arrange_row.Given as goal

abbrev pub invariant-loop-i : goal.invariant-loop-i
invariant-loop-i g l = (l.i ≤ length l.entries) × (length l.out ≡ length l.initial.out) × (l.out ≡ sets l.initial.out l.at (take l.i (arrange l.blank (row_sources l.base l.entries) l.v)))
