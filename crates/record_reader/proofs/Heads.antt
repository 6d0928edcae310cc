-- The trits of five 16-bit sizes.
use mathlib.Core.Path.{◌≡◌}
use Prim.Native.Nat.{ℕ, suc, ◌+◌, ◌*◌, ◌≤◌, ◌<◌, min}
use native.Mathlib.Omega.{arith}
use native.Mathlib.Nat.{mul-le-mul}
use mathlib.Core.List.{List}
use lib.ListN.{get_or}
use Rattle.rules.specs.Record as rules
use Rattle.record_sizes.specs.View.{view_sizes}
use Rattle.record_sizes.specs.declared.Sizes.{Sizes}
use Rattle.record_reader.specs.Reading.{Words}

product : (a b x y : ℕ) → a ≤ x → b ≤ y → a * b ≤ x * y
product a b x y h g = mul-le-mul {n₁ = a} {m₁ = b} {n₂ = x} {m₂ = y} h g

five : (u f d p q : ℕ) → u < 65536 → f < 65536 → d < 65536 → p < 65536 → q < 65536 → u * (f * d + p * q) ≤ 1125899906842624
five u f d p q hu hf hd hp hq =
    let x = product f d 65535 65535 (omega arith) (omega arith) in
    let y = product p q 65535 65535 (omega arith) (omega arith) in
    omega (arith, product u (f * d + p * q) 65535 8589672450 (omega arith) (omega arith))

module _ (s : Sizes) (w : Words s) where
  pub words-trits : rules.size_trits (view_sizes s) ≤ 1125899906842624
  unfolding rules.size_trits
  words-trits = five _ _ _ _ _ w.unit_word w.full_word w.full_depth_word w.partial_word w.partial_depth_word

  pub words-all : (n : ℕ) → n ≡ min (rules.size_trits (view_sizes s)) 1125899906842624 → n ≡ rules.size_trits (view_sizes s)
  words-all n e = omega (arith, words-trits)

-- the same of the words of any bytes
module _ (bytes : List ℕ) (small : (i : ℕ) → get_or bytes i 0 < 256) where
  word : (i : ℕ) → rules.word_at bytes i < 65536
  unfolding rules.word_at
  word i = omega (arith, small i, small (suc i))
