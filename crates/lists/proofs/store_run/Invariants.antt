-- The invariants of `lists::store_run`.
use Rattle.std.proofs.Common.{◌≡◌, ◌-◌, take}
use Rattle.std.proofs.lemmas.List.Edits.{sets}
use Rattle.lists.specs.Lists.{up_from}
use Rattle.lists.proofs.store_run.Given as goal

abbrev pub invariant-loop-i : goal.invariant-loop-i
invariant-loop-i l = l.place-items ≡ sets l.initial.place-items 0 (take l.i (up_from l.first (l.last - l.first)))
