-- The invariants of `table_print::put_all`.
use Rattle.table_print.specs.Rows.{rows_from}
use mathlib.Core.List.{[]}
use lib.Seq.{sets}
use Prim.Native.Nat.{◌+◌, ◌-◌, ◌*◌}
use mathlib.Core.Path.{◌≡◌}
use Rattle.table_print.proofs.put_all.Given as goal

abbrev pub invariant-loop-row : goal.invariant-loop-row
invariant-loop-row l =
    let text = l.text in
    (text.out.ghost_name ≡ l.initial.text.out.ghost_name) × (text.at ≡ l.row * (l.size.width + 1)) × (l.from ≡ l.row * l.size.width)
    × (sets text.out.now text.at (rows_from l.size.width l.rows l.row (l.size.depth - l.row) []) ≡ sets l.initial.text.out.now 0 (rows_from l.size.width l.rows 0 l.size.depth []))
