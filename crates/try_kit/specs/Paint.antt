-- The patterns that a test fills an array with, and what it looks for afterwards.
use Rattle.std.specs.Prelude.{ℕ, ◌+◌, ◌-◌, ◌%◌, Bool, List, map, length, get_or}
use Rattle.lists.specs.Lists.{all, up_from}

-- a painted byte, a painted word, and a trit
abbrev pub paint_at : ℕ → ℕ
paint_at i = 3 + i % 251

abbrev pub word_at : ℕ → ℕ
word_at i = 3000000000 + i % 1009

abbrev pub trit_at_of : ℕ → ℕ
trit_at_of i = i % 3

-- an array of n elements
unfoldable pub pattern_of : {A : Type 0} → (ℕ → A) → ℕ → List A
pattern_of f n = map f (up_from 0 n)

-- every element from a place on is the pattern's
unfoldable pub pattern_from : {A : Type 0} → (A → A → Bool) → (ℕ → A) → List A → ℕ → Bool
pattern_from eq f room from = all (λ i. eq (get_or room i (f i)) (f i)) (up_from from (length room - from))
