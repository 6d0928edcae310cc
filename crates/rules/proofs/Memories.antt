-- Where the memories of an image start, by its sizes: each where the one before ends, the last at the image's end.
use Prim.Native.Nat.{ℕ, suc, ◌+◌, ◌-◌, ◌*◌, ◌<◌, ◌≤◌}
use mathlib.Core.Path.{◌≡◌, ap, ◌∙◌}
use native.Mathlib.Omega.{arith}
use native.Mathlib.Nat.{add-mul, mul_comm, mul-le-mul}
use Rattle.rules.specs.Image.{depth_at, rows_before}
use Rattle.rules.specs.Record.{Sizes, size_mems, size_trits}
use Rattle.rules.specs.Lister.{size_depth, size_start}
use Rattle.rules.proofs.Places.{before_suc, before_mono, before_low, before_high}

module _ (s : Sizes) where
  pub start_next : (i : ℕ) → size_start s (suc i) ≡ size_start s i + size_depth s i * s.unit
  unfolding size_start size_depth
  start_next i =
      ap (λ (n : ℕ). n * s.unit) (before_suc s.full s.full_depth_of s.partial_depth i)
      ∙ add-mul (rows_before s.full s.full_depth_of s.partial_depth i) (depth_at s.full s.full_depth_of s.partial_depth i) s.unit

  pub start_low : (i : ℕ) → i < s.full → size_start s i ≡ i * s.full_depth_of * s.unit
  unfolding size_start
  start_low i h = ap (λ (n : ℕ). n * s.unit) (before_low s.full s.full_depth_of s.partial_depth i h)

  pub start_high : (i : ℕ) → s.full ≤ i → size_start s i ≡ (s.full * s.full_depth_of + (i - s.full) * s.partial_depth) * s.unit
  unfolding size_start
  start_high i h = ap (λ (n : ℕ). n * s.unit) (before_high s.full s.full_depth_of s.partial_depth i h)

  pub start_all : size_start s (size_mems s) ≡ size_trits s
  unfolding size_mems size_trits
  start_all =
      let e : s.full + s.partial - s.full ≡ s.partial = omega arith in
      start_high (s.full + s.partial) (omega arith)
      ∙ ap (λ (n : ℕ). (s.full * s.full_depth_of + n * s.partial_depth) * s.unit) e
      ∙ mul_comm (s.full * s.full_depth_of + s.partial * s.partial_depth) s.unit

  start_mono : (i j : ℕ) → i ≤ j → size_start s i ≤ size_start s j
  unfolding size_start
  start_mono i j h =
      mul-le-mul {n₁ = rows_before s.full s.full_depth_of s.partial_depth i} {m₁ = s.unit} {n₂ = rows_before s.full s.full_depth_of s.partial_depth j} {m₂ = s.unit} (before_mono s.full s.full_depth_of s.partial_depth i j h) (omega arith)

  -- memory i lies in the image
  pub start_fits : (i : ℕ) → i < size_mems s → size_start s i + size_depth s i * s.unit ≤ size_trits s
  start_fits i h = omega (arith, start_next i, start_mono (suc i) (size_mems s) (omega arith), start_all)
