-- The trits of a known byte and a value byte, and the errors in them, for a count of trits that are left.
use Rattle.std.specs.Prelude.{ℕ, Bool, ◌||◌, List, ◌++◌, map, take, drop, eqb, ltb}
use Rattle.lists.specs.Choice.{when◌then◌else◌}
use Rattle.lists.specs.Lists.{any, pairs}
use Rattle.rules.specs.Logic.{Const}
use Rattle.rules.specs.Value.{from_uint}
use Rattle.rules.specs.Record.{trit_by}

-- the trits of two lists of bits
abbrev pub trits_by : ℕ → List ℕ → List ℕ → Const
trits_by count ks vs = map (λ p. trit_by p.0 p.1) (take count (pairs ks vs))

-- a value bit without its known bit among the count, or a bit set after them
abbrev pub bad_by : ℕ → List ℕ → List ℕ → Bool
bad_by count ks vs = any (λ p. ltb p.0 p.1) (take count (pairs ks vs)) || any (eqb 1) (drop count ks ++ drop count vs)

-- of two bytes
unfoldable pub group_trits : ℕ → ℕ → ℕ → Const
group_trits count known value = trits_by count (from_uint 8 known) (from_uint 8 value)

unfoldable pub bad_group : ℕ → ℕ → ℕ → Bool
bad_group count known value = bad_by count (from_uint 8 known) (from_uint 8 value)

-- of one bit each: of a trit, or both spare
abbrev pub bad_pair : Bool → ℕ → ℕ → Bool
bad_pair spare known value = when spare then eqb 1 known || eqb 1 value else ltb known value
