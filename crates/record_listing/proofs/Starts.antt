-- Where a memory starts: the products that the code makes are within the limits.
use Prim.Native.Nat.{ℕ, ◌+◌, ◌-◌, ◌*◌, ◌<◌, ◌≤◌}
use mathlib.Core.Path.{◌≡◌, ap}
use mathlib.Core.List.{List}
use lib.ListN.{take, drop}
use mathlib.Core.Bool.{false}
use native.Mathlib.Omega.{arith}
use Rattle.rules.specs.Record.{Sizes, size_mems, size_trits}
use Rattle.rules.specs.Conditions.{bad_sizes}
use Rattle.rules.specs.Lister.{size_start, size_depth, mem_trits}
use Rattle.rules.proofs.Headers.{kept, factor}
use Rattle.rules.proofs.Memories.{start_low, start_high, start_fits}

module _ (z : Sizes) (g : bad_sizes z ≡ false) (i : ℕ) (h : i < size_mems z) where
  pub end_max : size_start z i + size_depth z i * z.unit ≤ 131072
  end_max = omega (arith, start_fits z i h, (kept z g).trits_max)

  module _ (l : i < z.full) where
    pub low_max : i * z.full_depth_of * z.unit ≤ 131072
    low_max = omega (arith, end_max, start_low z i l)

    pub low_rows : i * z.full_depth_of ≤ 131072
    low_rows = omega (arith, low_max, factor (i * z.full_depth_of) z.unit (kept z g).unit_pos)

  module _ (l : z.full ≤ i) where
    pub high_max : (z.full * z.full_depth_of + (i - z.full) * z.partial_depth) * z.unit ≤ 131072
    high_max = omega (arith, end_max, start_high z i l)

    pub high_rows : z.full * z.full_depth_of + (i - z.full) * z.partial_depth ≤ 131072
    high_rows = omega (arith, high_max, factor (z.full * z.full_depth_of + (i - z.full) * z.partial_depth) z.unit (kept z g).unit_pos)

-- with the code's own start and depth
module _ (z : Sizes) (image : List ℕ) (i from depth : ℕ) (p : from ≡ size_start z i) (q : depth ≡ size_depth z i) where
  pub end_within : bad_sizes z ≡ false → i < size_mems z → from + depth * z.unit ≤ size_trits z
  end_within g h = let e : depth * z.unit ≡ size_depth z i * z.unit = ap (λ (n : ℕ). n * z.unit) q in omega (arith, start_fits z i h)

  pub memory_is : take (from + depth * z.unit - from) (drop from image) ≡ mem_trits z image i
  unfolding mem_trits
  memory_is =
      let e : from + depth * z.unit - from ≡ depth * z.unit = omega arith in
      rw (e, p, q)
