-- The invariants of `merge_dff::unpack_part`.
use mathlib.Core.Path.{◌≡◌}
use mathlib.Core.List.{map}
use lib.ListN.{take}
use lib.Seq.{sets}
use Rattle.merge_dff.specs.Packs.{packed_byte}
use Rattle.merge_dff.proofs.unpack_part.Given as goal

abbrev pub invariant-loop-i : goal.invariant-loop-i
invariant-loop-i l = l.to ≡ sets l.initial.to 0 (take l.i (map (packed_byte l.by) l.ps))
