-- The invariants of `lists::fill`.
use Rattle.std.proofs.Common.{◌≡◌, take, replicate}
use Rattle.std.proofs.lemmas.List.Edits.{sets}
use Rattle.lists.proofs.fill.Given as goal

abbrev pub invariant-loop-place : goal.invariant-loop-place
invariant-loop-place g l = l.place-items ≡ sets l.initial.place-items 0 (take l.place-index (replicate l.count l.value))
