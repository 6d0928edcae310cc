-- As much of values as a merge takes.
use mathlib.Core.Path.{◌≡◌}
use Prim.Native.Nat.{ℕ, ◌≤◌}
use mathlib.Core.List.{List}
use lib.ListN.{length, take}
use lib.Seq.{take_all}
use Rattle.lists.specs.Lists.{pairs}
use Rattle.lists.proofs.Pairs.{take_pairs}
use Rattle.rules.specs.Limits.{max_merge}
use Rattle.merge_mux.specs.Results.{limited}

pub limited-all : (a : List ℕ) → length a ≤ max_merge → limited a ≡ a
unfolding limited
limited-all a h = take_all max_merge a h

pub limited_pairs : (a b : List ℕ) → take max_merge (pairs a b) ≡ pairs (limited a) (limited b)
unfolding limited
limited_pairs a b = take_pairs max_merge a b
