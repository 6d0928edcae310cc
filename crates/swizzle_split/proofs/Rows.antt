-- The rows of a port by its wide log.
use mathlib.Core.Path.{◌≡◌, ap, ◌∙◌}
use Prim.Native.Nat.{ℕ, ◌^◌, ◌≤◌, min}
use native.Mathlib.Omega.{arith}
use Rattle.std.proofs.Math.Pow.{pow_mono}
use Rattle.lists.proofs.Powers.{two_to_is}
use Rattle.rules.specs.Limits.{max_wide}
use Rattle.swizzle_split.specs.Rows.{rows_of}

pub rows_most : (wide : ℕ) → rows_of wide ≤ 16
rows_most wide = pow_mono {i = min wide 4} {j = 4} (omega arith)

pub rows_are : (wide : ℕ) → wide ≤ max_wide → rows_of wide ≡ 2 ^ wide
rows_are wide h = ap (λ (k : ℕ). 2 ^ k) (omega (arith, h))

-- as a function reads it from a power
pub rows_by : (wide k r : ℕ) → k ≡ min wide max_wide → r ≡ 2 ^ min k 32 → r ≡ rows_of wide
rows_by wide k r e f = two_to_is k r (omega (arith, e)) f ∙ ap (λ (n : ℕ). 2 ^ n) e

pub rows_by_most : (wide k r : ℕ) → k ≡ min wide max_wide → r ≡ 2 ^ min k 32 → r ≤ 16
rows_by_most wide k r e f = omega (arith, rows_by wide k r e f, rows_most wide)
