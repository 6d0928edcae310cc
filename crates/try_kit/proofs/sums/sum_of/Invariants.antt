-- The invariants of `try_kit::sums::sum_of`.
use Rattle.try_kit.specs.Sums.{weighed}
use mathlib.Core.Path.{◌≡◌}
use Prim.Native.Nat.{◌<◌}
use lib.ListN.{drop}
use Rattle.try_kit.proofs.sums.sum_of.Given as goal

abbrev pub invariant-loop-b : goal.invariant-loop-b
invariant-loop-b l = (l.sum < 4294967291) × (weighed l.sum (drop l.b-index l.bytes) ≡ weighed 0 l.bytes)
