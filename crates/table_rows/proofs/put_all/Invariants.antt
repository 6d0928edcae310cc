-- The invariants of `table_rows::put_all`.
use Rattle.table_rows.specs.Rows.{rows_on, image_rows}
use lib.Seq.{sets}
use Rattle.image_geometry.specs.View.{layout_of}
use mathlib.Core.Path.{◌≡◌}
use Prim.Native.Nat.{◌-◌, ◌*◌}
use lib.ListN.{length}
use Rattle.table_rows.proofs.put_all.Given as goal

abbrev pub invariant-loop-row : goal.invariant-loop-row
invariant-loop-row l = (length l.room ≡ length l.initial.room) × (l.at ≡ l.row * l.layout.params.width)
    × (sets l.room l.at (rows_on (layout_of l.layout) l.image l.row (l.layout.params.depth - l.row)) ≡ sets l.initial.room 0 (image_rows (layout_of l.layout) l.image))
