-- The invariants of `table_text::head::read_line`.
use Rattle.table_text.specs.Head.{head_start, head_run}
use Rattle.table_text.specs.View.{head_of}
use lib.ListN.{length, drop}
use mathlib.Core.List.{[], ◌∷◌, ◌++◌}
use mathlib.Core.Path.{◌≡◌}
use Rattle.table_text.proofs.head.read_line.Given as goal

abbrev pub invariant-loop-at : goal.invariant-loop-at
invariant-loop-at l = (length l.words ≡ length l.initial.words) × (head_run (head_of l.head) l.words (drop l.at (l.text ++ (10 ∷ []))) ≡ head_run head_start l.initial.words (l.text ++ (10 ∷ [])))
