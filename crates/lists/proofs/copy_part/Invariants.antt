-- The invariants of `lists::copy_part`.
use Rattle.std.proofs.Common.{◌≡◌, ◌+◌, length, take, drop}
use Rattle.std.proofs.lemmas.List.Edits.{sets}
use Rattle.lists.proofs.copy_part.Given as goal

abbrev pub invariant-loop-i : goal.invariant-loop-i
invariant-loop-i g l = (length l.to ≡ length l.initial.to) × (sets l.to (l.at + l.i) (drop l.i (take l.n l.from)) ≡ sets l.initial.to l.at (take l.n l.from))
