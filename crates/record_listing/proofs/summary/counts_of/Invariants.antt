-- The invariants of `record_listing::summary::counts_of`.
use Rattle.lists.specs.Lists.{sum_by}
use Rattle.rules.specs.Record.{known_bit, value_bit}
use mathlib.Core.Path.{◌≡◌}
use Prim.Native.Nat.{◌+◌, ◌≤◌}
use lib.ListN.{drop}
use Rattle.record_listing.proofs.summary.counts_of.Given as goal

abbrev pub invariant-loop-t : goal.invariant-loop-t
invariant-loop-t l = (l.known ≤ l.t-index) × (l.ones ≤ l.t-index) × (l.known + sum_by known_bit (drop l.t-index l.ts) ≡ sum_by known_bit l.ts) × (l.ones + sum_by value_bit (drop l.t-index l.ts) ≡ sum_by value_bit l.ts)
