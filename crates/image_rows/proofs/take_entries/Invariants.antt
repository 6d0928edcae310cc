-- The invariants of `image_rows::take_entries`.
use mathlib.Core.Path.{◌≡◌}
use lib.ListN.{drop}
use Rattle.image_rows.specs.Steps.{after, index_from, take_row}
use Rattle.image_rows.proofs.take_entries.Given as goal

abbrev pub invariant-loop-entry : goal.invariant-loop-entry
invariant-loop-entry l = (l.c ≡ after l.g l.initial.c l.entry-index)
    × (take_row (index_from l.g l.initial.c) (drop l.entry-index l.entries) l.entry-index l.image l.room ≡ take_row (index_from l.g l.initial.c) l.entries 0 l.image l.initial.room)
