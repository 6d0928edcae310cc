-- The answer of `swizzle_mux_bits` in arrays, and what the mux bits are counted from.
use Rattle.std.specs.Prelude.{ℕ, ◌≤◌, ◌<◌, List, length, get_or}
use Rattle.rules.specs.Answers.{Answer, Refused, Accepted}
use Rattle.swizzle_plan.specs.Numbers.{in_eight}
use Rattle.swizzle_sizes.specs.declared.MuxBits.{MuxBits}

-- the two arrays of a struct, and an answer with its lists in arrays of eight
abbrev pub bits_of : MuxBits → List ℕ × List ℕ
bits_of b = (b.writes, b.reads)

abbrev pub in_arrays : Answer (List ℕ × List ℕ) → Answer (List ℕ × List ℕ)
in_arrays (Refused n) = Refused n
in_arrays (Accepted x) = Accepted (in_eight x.0, in_eight x.1)

-- what the mux bits can be counted from: the bits that all ports have, and the new wide logs
pub record SmallLogs (base : ℕ) (news : List ℕ) : Type 0 where
  pub base_small : base ≤ 1000
  pub news_small : (j : ℕ) → j < length news → get_or news j 0 ≤ 4

-- and few ports
pub record Countable (base : ℕ) (ports news : List ℕ) : Type 0 where
  pub small : SmallLogs base news
  pub few : length ports ≤ 8
