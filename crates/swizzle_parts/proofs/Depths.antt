-- The depth of a full memory and of the others, and where a memory's trits start in the image.
use mathlib.Core.Path.{◌≡◌}
use Prim.Native.Nat.{ℕ, ◌+◌, ◌-◌, ◌*◌, ◌<◌, ◌≤◌, min}
use native.Mathlib.Nat.{mul-le-mul_right}
use native.Mathlib.Omega.{arith}
use lib.Dec.{ltb}
use borrow.Author.Tests.{lt-ltb, le-ltb}
use Rattle.lists.proofs.Choice.{if_true, if_false}
use Rattle.rules.specs.Image.{depth_at, rows_before}
use Rattle.swizzle_result.specs.View.{start_by}
use Rattle.swizzle_result.specs.declared.WideMemory.{WideMemory}

-- so many rows of one depth, then of the other, are no fewer for one memory more
before_more : (full H P n : ℕ) → min n full * H + (n - full) * P ≤ min (n + 1) full * H + (n + 1 - full) * P
before_more full H P n =
    let a : min n full * H ≤ min (n + 1) full * H = mul-le-mul_right H (omega arith) in
    let b : (n - full) * P ≤ (n + 1 - full) * P = mul-le-mul_right P (omega arith) in
    omega (arith, a, b)

module _ (g : WideMemory) (n : ℕ) where
  pub in_full : n < g.full → depth_at g.full g.full_depth g.part_depth n ≡ g.full_depth
  unfolding depth_at
  in_full h = if_true (ltb n g.full) g.full_depth g.part_depth (lt-ltb n g.full h)

  pub in_part : g.full ≤ n → depth_at g.full g.full_depth g.part_depth n ≡ g.part_depth
  unfolding depth_at
  in_part h = if_false (ltb n g.full) g.full_depth g.part_depth (le-ltb n g.full h)

  -- the code's product is the start of the rules; n - min n full is n - full
  pub start_is : (low H P u : ℕ) → low ≡ min n g.full → H ≡ g.full_depth → P ≡ g.part_depth → u ≡ g.unit
      → (low * H + (n - low) * P) * u ≡ start_by g n
  unfolding rows_before
  start_is low H P u a b c d =
      let e : n - low ≡ n - g.full = omega (arith, a) in
      λ i. (a i * b i + e i * c i) * d i

  pub start_more : start_by g n ≤ start_by g (n + 1)
  unfolding rows_before
  start_more = mul-le-mul_right g.unit (before_more g.full g.full_depth g.part_depth n)
