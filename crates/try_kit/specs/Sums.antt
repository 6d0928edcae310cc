-- A sum of bytes in which every byte counts, and its place.
use Rattle.std.specs.Prelude.{ℕ, ◌+◌, ◌*◌, ◌%◌, List, [], ◌∷◌}

unfoldable pub weighed : ℕ → List ℕ → ℕ
weighed sum [] = sum
weighed sum (b ∷ bs) = weighed ((sum * 257 + b + 1) % 4294967291) bs
