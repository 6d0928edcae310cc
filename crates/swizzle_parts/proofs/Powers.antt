-- Small powers of two, and products with them.
use mathlib.Core.Path.{◌≡◌}
use Prim.Native.Nat.{ℕ, zero, suc, ◌*◌, ◌/◌, ◌%◌, ◌^◌, ◌<◌, ◌≤◌, min}
use native.Mathlib.Nat.{mul-le-mul, mod-lt}
use native.Mathlib.Omega.{arith}
use Rattle.lists.proofs.Powers.{two_to_is}

pub power_16 : (k : ℕ) → k ≤ 4 → 2 ^ k ≤ 16
power_16 zero h = omega arith
power_16 (suc zero) h = omega arith
power_16 (suc (suc zero)) h = omega arith
power_16 (suc (suc (suc zero))) h = omega arith
power_16 (suc (suc (suc (suc zero)))) h = omega arith
power_16 (suc (suc (suc (suc (suc k))))) h = absurd (omega arith)

pub product_4096 : (a b : ℕ) → a ≤ 16 → b ≤ 256 → a * b ≤ 4096
product_4096 a b h l = mul-le-mul {n₂ = 16} {m₂ = 256} h l

-- the code's power of a small wide log
pub power_of : (r k : ℕ) → r ≡ 2 ^ min k 32 → k ≤ 4 → (r ≡ 2 ^ k) × (r ≤ 16)
power_of r k e h =
    let q : r ≡ 2 ^ k = two_to_is k r (omega arith) e in
    (q, omega (arith, q, power_16 k h))

-- the products of an output net's place
pub record NetFits (u mems n row bit : ℕ) : Type 0 where
  pub unit_pos : 0 < u
  pub columns_fit : mems * u ≤ 8388608
  pub row_fits : row * (mems * u) ≤ 134217728
  pub own_fits : n * u ≤ 8388608
  pub rest_fits : bit % u ≤ 256

pub net_fits : (u mems n bit wide : ℕ) → u ≤ 256 → mems ≤ 32768 → n < mems → wide ≤ 4 → (0 < u) × (bit / u < 2 ^ wide) → NetFits u mems n (bit / u) bit
net_fits u mems n bit wide hu hm hn hw r =
    let c : mems * u ≤ 8388608 = mul-le-mul {n₂ = 32768} {m₂ = 256} hm hu in
    record {
      unit_pos = r.0;
      columns_fit = c;
      row_fits = mul-le-mul {n₂ = 16} {m₂ = 8388608} (omega (arith, r.1, power_16 wide hw)) c;
      own_fits = mul-le-mul {n₂ = 32768} {m₂ = 256} (omega arith) hu;
      rest_fits = omega (arith, mod-lt bit r.0);
    }
