-- Counts of comparisons.
use Rattle.std.specs.Prelude.{ℕ, ◌+◌, min, Bool, true, not}
use Rattle.lists.specs.Choice.{when◌then◌else◌}
use Rattle.try_kit.specs.declared.tally.Tally.{Tally}

-- no count, length or place of a case is larger, and no net
abbrev pub most : ℕ
most = 1000000

abbrev pub most_net : ℕ
most_net = 100000000

-- one more where a test holds
abbrev pub more : ℕ → Bool → ℕ
more n test = when test then min (n + 1) most else n

abbrev pub none_made : Tally
none_made = record { made = 0; failed = 0 }

abbrev pub one_more_of : Tally → Bool → Tally
one_more_of t ok = record { made = more t.made true; failed = more t.failed (not ok) }
