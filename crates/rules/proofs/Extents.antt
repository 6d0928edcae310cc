-- How large the sizes of a layout are, within number 1's limits. The bounds are powers of two with room to spare.
use Prim.Native.Nat.{ℕ, zero, suc, ◌+◌, ◌-◌, ◌*◌, ◌/◌, ◌%◌, ◌^◌, ◌≤◌, ◌<◌}
use mathlib.Core.Path.{◌≡◌, sym, ap, subst}
use mathlib.Core.Logic.{⊎_elim}
use native.Mathlib.Omega.{arith}
use native.Mathlib.Nat.{mul-le-mul, mul-le-mul_left, mul-le-mul_right, div-le_self, div-mul-le_self, le_trans, le_of_lt, mul_comm, mul_assoc, mul-add, mul-one, one-mul, eq-zero-or-pos, mod-lt, zero-mod}
use lib.Pow.{pow_pos, pow_mono}
use borrow.Author.Tests.{eq-eqb, ne_eqb}
use Rattle.rules.specs.Limits.{max_depth, max_row, max_unit}
use Rattle.rules.specs.Numbers.{ceil_div}
use Rattle.rules.specs.Geometry.{Layout, soft, row_len_of, full_depth_of, full_chunks, part_depth_of, all_chunks, full_mems, all_mems}
use Rattle.rules.specs.Image.{mem_start, trits}
use Rattle.rules.proofs.Places.{full_all, before_high}
use Rattle.rules.specs.Beside.Shape.{Small}

ceil_le : (a b : ℕ) → ceil_div a b ≤ a + (b - 1)
unfolding ceil_div
ceil_le a b = div-le_self (a + (b - 1)) b

-- so many chunks of P rows each are no more than there are rows
chunks_le : (d P D : ℕ) → P * (d / P / D) ≤ d
chunks_le d P D = le_trans (mul-le-mul_left P (div-le_self (d / P) D)) (subst (λ (n : ℕ). n ≤ d) (mul_comm (d / P) P) (div-mul-le_self d P))

part_le : (d P : ℕ) → 0 < d / P → P ≤ d
part_le d P l = le_trans (subst (λ (n : ℕ). n ≤ d / P * P) (one-mul P) (mul-le-mul_right P l)) (div-mul-le_self d P)

more_le : (d P D : ℕ) → 0 < d / P → P * (d / P / D + 1) ≤ d + d
more_le d P D l = subst (λ (n : ℕ). n ≤ d + d) (sym (mul-add P (d / P / D) 1)) (omega (arith, chunks_le d P D, part_le d P l, mul-one P))

pos_mod : (a b : ℕ) → 0 < a % b → 0 < a
pos_mod zero b l = absurd (omega (arith, zero-mod b))
pos_mod (suc a) b l = omega arith

-- a row of L entries in C chunks of P parts each
ceil_max : (L P C u n : ℕ) → P * C ≤ n → n ≤ max_depth + max_depth → L ≤ max_row → u ≤ max_unit → ceil_div (L * P * C) u ≤ 1073741824
ceil_max L P C u n a b c d =
    le_trans (ceil_le (L * P * C) u)
    (sums (le_trans (subst (λ (x : ℕ). x ≤ L * n) (sym (mul_assoc L P C)) (mul-le-mul_left L a)) (mul-le-mul {n₂ = max_row} {m₂ = max_depth + max_depth} c b)) d)
  where
    sums : {x : ℕ} → x ≤ max_row * (max_depth + max_depth) → u ≤ max_unit → x + (u - 1) ≤ 1073741824
    sums h k = omega arith

module _ (q : Layout) (s : Small q.depth q.width (row_len_of q) q.unit q.hard) where
  pub full_max : full_mems q ≤ 1073741824
  unfolding full_mems full_chunks
  full_max =
      ceil_max (row_len_of q) (2 ^ soft q) _ q.unit max_depth (le_trans (chunks_le q.depth (2 ^ soft q) (full_depth_of q)) s.depth_max) (omega arith) s.len_max s.unit_max

  base_pos : 0 < part_depth_of q → 0 < q.depth / 2 ^ soft q
  unfolding part_depth_of
  base_pos = pos_mod (q.depth / 2 ^ soft q) (full_depth_of q)

  some_max : 0 < part_depth_of q → all_mems q ≤ 1073741824
  unfolding all_mems all_chunks full_chunks
  some_max l =
      rw (ne_eqb (part_depth_of q) 0 (λ e. omega arith))
      (ceil_max (row_len_of q) (2 ^ soft q) _ q.unit (max_depth + max_depth)
      (le_trans (more_le q.depth (2 ^ soft q) (full_depth_of q) (base_pos l)) (twice s.depth_max)) (omega arith) s.len_max s.unit_max)
    where
      twice : {d : ℕ} → d ≤ max_depth → d + d ≤ max_depth + max_depth
      twice h = omega arith

  none_is : part_depth_of q ≡ 0 → all_mems q ≡ full_mems q
  unfolding all_mems all_chunks full_mems
  none_is e = rw (eq-eqb (part_depth_of q) 0 e)

  pub all_max : all_mems q ≤ 1073741824
  all_max = ⊎_elim (λ e. omega (arith, none_is e, full_max)) some_max (eq-zero-or-pos (part_depth_of q))

  pub deep_max : full_depth_of q ≤ 1048576
  unfolding full_depth_of
  deep_max = le_trans (pow_mono s.hard_max) (omega arith)

  pub part_lt : part_depth_of q < full_depth_of q
  unfolding part_depth_of full_depth_of
  part_lt = mod-lt _ (pow_pos q.hard)

  pub part_max : part_depth_of q ≤ 1048576
  part_max = le_trans (le_of_lt part_lt) deep_max

  pub trits_is : (full_mems q * full_depth_of q + (all_mems q - full_mems q) * part_depth_of q) * q.unit ≡ trits q
  unfolding trits mem_start
  trits_is = ap (λ (x : ℕ). x * q.unit) (sym (before_high (full_mems q) (full_depth_of q) (part_depth_of q) (all_mems q) (full_all q s.unit_pos)))

  -- the products on the way to the trits
  pub first_max : full_mems q * full_depth_of q ≤ 1125899906842624
  first_max = mul-le-mul {n₂ = 1073741824} {m₂ = 1048576} full_max deep_max

  pub second_max : (all_mems q - full_mems q) * part_depth_of q ≤ 1125899906842624
  second_max = mul-le-mul {n₂ = 1073741824} {m₂ = 1048576} (omega (arith, all_max)) part_max

  pub third_max : (full_mems q * full_depth_of q + (all_mems q - full_mems q) * part_depth_of q) * q.unit ≤ 2251799813685248 * max_unit
  third_max = mul-le-mul {n₂ = 2251799813685248} {m₂ = max_unit} (omega (arith, first_max, second_max)) s.unit_max

  pub columns_max : all_mems q * q.unit ≤ 1073741824 * max_unit
  columns_max = mul-le-mul {n₂ = 1073741824} {m₂ = max_unit} all_max s.unit_max
