-- The invariants of `table_text::scan::read_from`.
use Rattle.table_text.specs.Scan.{scan_start, scan_run}
use Rattle.table_text.specs.View.{scan_of}
use lib.Dec.{eqb}
use lib.ListN.{length, drop}
use mathlib.Core.Bool.{false}
use mathlib.Core.List.{[], ◌∷◌, ◌++◌}
use mathlib.Core.Path.{◌≡◌}
use Rattle.table_text.proofs.scan.read_from.Given as goal

abbrev pub invariant-loop-i : goal.invariant-loop-i
invariant-loop-i l = (length l.rows ≡ length l.initial.rows) × (eqb (scan_of l.scan).kind 8 ≡ false) × (scan_run l.size.depth l.size.width (scan_of l.scan) l.rows (drop l.i (l.text ++ (10 ∷ []))) ≡ scan_run l.size.depth l.size.width scan_start l.initial.rows (drop l.from (l.text ++ (10 ∷ []))))
