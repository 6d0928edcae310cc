-- Products and sums up to a limit.
use mathlib.Core.Path.{◌≡◌, sym, ap, ◌∙◌}
use Prim.Native.Nat.{ℕ, zero, suc, ◌+◌, ◌*◌, ◌<◌, ◌≤◌, min}
use native.Mathlib.Omega.{arith}
use native.Mathlib.Nat.{mul-le-mul, one-mul, zero-mul}
use lib.Dec.{eqb, ltb}
use borrow.Author.Tests.{lt-ltb, le-ltb, ltb-false}
use mathlib.Core.Bool.{false}
use Rattle.rules.specs.Limits.{max_unit}
use Rattle.rules.specs.Record.{size_mems}
use Rattle.rules.specs.Conditions.{bad_unit}
use Rattle.record_sizes.specs.View.{view_sizes}
use Rattle.record_sizes.specs.declared.Sizes.{Sizes}
use Rattle.lists.proofs.Choice.{cases_le, or_false}

past : (u x y : ℕ) → 0 < u → y < x → y ≤ u * x
past u x y pos h = omega (arith, mul-le-mul {n₁ = 1} {m₁ = x} {n₂ = u} {m₂ = x} (omega arith) (omega arith), one-mul x)

-- limits on the way change nothing, also a last one of the sum that is not below the limit
pub within : (u x y most cap : ℕ) → most ≤ cap → min (u * min (min x most + min y most) cap) most ≡ min (u * (x + y)) most
within u x y most cap c =
    cases_le (x + y) most
    (λ h.
    let e : min (min x most + min y most) cap ≡ x + y = omega arith in
    ap (λ (n : ℕ). min (u * n) most) e)
    (λ h. over u (min (min x most + min y most) cap) (omega arith) h)
  where
    over : (u k : ℕ) → most ≤ k → most < x + y → min (u * k) most ≡ min (u * (x + y)) most
    over zero k g h = rw (zero-mul k, zero-mul (x + y))
    over (suc u) k g h =
        let a : most ≤ suc u * k = omega (arith, mul-le-mul {n₁ = 1} {m₁ = k} {n₂ = suc u} {m₂ = k} (omega arith) (omega arith), one-mul k) in
        let b : most ≤ suc u * (x + y) = past (suc u) (x + y) most (omega arith) h in
        omega arith

-- one past the limit is enough to tell
pub past_limit : (n most : ℕ) → ltb most (min n (most + 1)) ≡ ltb most n
past_limit n most =
    cases_le n most
    (λ h. le-ltb most (min n (most + 1)) (omega arith) ∙ sym (le-ltb most n h))
    (λ h. lt-ltb most (min n (most + 1)) (omega arith) ∙ sym (lt-ltb most n h))

-- the columns of a unit within its limit
pub columns_fit : (s : Sizes) (n : ℕ) → n ≡ size_mems (view_sizes s) → s.full < 4294967296 → s.partial < 4294967296 → bad_unit (view_sizes s) ≡ false
    → n * s.unit ≤ 2199023255040
unfolding size_mems bad_unit
columns_fit s n e f p u = omega (arith, mul-le-mul {n₁ = n} {m₁ = s.unit} {n₂ = 8589934590} {m₂ = 256} (omega arith) (ltb-false max_unit s.unit (or_false (eqb s.unit 0) _ u).1))
