-- Functions of numbers that the rules use: division rounded up, and the bits of a number.
use Rattle.std.specs.Prelude.{ℕ, zero, suc, ◌+◌, ◌-◌, ◌/◌, ◌%◌, max, true, false, List, [], ◌∷◌, eqb}
use Rattle.rules.specs.Limits.{addr_bits}

-- a divided by b, rounded up
unfoldable pub ceil_div : ℕ → ℕ → ℕ
ceil_div a b = (a + (b - 1)) / b

-- how many of the lowest n bits of a number are set
unfoldable pub softs : ℕ → ℕ → ℕ
softs zero m = 0
softs (suc n) m = m % 2 + softs n (m / 2)

-- one more than the highest bit that is set among the lowest n, or 0
unfoldable pub top_bits : ℕ → ℕ → ℕ
top_bits zero m = 0
top_bits (suc n) m = elim (eqb m 0) [ true ↦ 0 | false ↦ suc (top_bits n (m / 2)) ]

-- how many bits count up to n things: 0 for 0 and 1, else ilog2(n - 1) + 1
unfoldable pub bits_for : ℕ → ℕ
bits_for n = top_bits addr_bits (n - 1)

-- the largest of some numbers, 0 of none
unfoldable pub largest : List ℕ → ℕ
largest [] = 0
largest (a ∷ l) = max a (largest l)
