-- The invariants of `net_logic::write_not`.
use Rattle.std.proofs.Common.{◌≡◌, take}
use Rattle.std.proofs.lemmas.List.Edits.{sets}
use Rattle.rules.specs.Logic.{const_not}
use Rattle.net_logic.proofs.write_not.Given as goal

abbrev pub invariant-loop-i : goal.invariant-loop-i
invariant-loop-i l = l.out ≡ sets l.initial.out 0 (take l.i (const_not l.a))
