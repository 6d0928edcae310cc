-- The invariants of `swizzle_tree::move_down`.
use lib.Seq.{sets}
use Rattle.lists.specs.Lists.{part}
use mathlib.Core.Path.{◌≡◌}
use lib.ListN.{length, take}
use Rattle.swizzle_tree.proofs.move_down.Given as goal

abbrev pub invariant-loop-i : goal.invariant-loop-i
invariant-loop-i l = (length l.pieces ≡ length l.initial.pieces) × (l.pieces ≡ sets l.initial.pieces l.to (take l.i (part l.from l.width l.initial.pieces)))
