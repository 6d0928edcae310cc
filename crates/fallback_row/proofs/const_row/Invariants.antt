-- The invariants of `fallback_row::const_row`.
use mathlib.Core.Path.{◌≡◌}
use lib.ListN.{take}
use lib.Seq.{sets}
use Rattle.rules.specs.Value.{of_const}
use Rattle.fallback_row.proofs.const_row.Given as goal

abbrev pub invariant-loop-i : goal.invariant-loop-i
invariant-loop-i l = l.row ≡ sets l.initial.row 0 (take l.i (of_const l.init))
