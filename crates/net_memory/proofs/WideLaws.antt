-- Laws of wide logs and of the test of a depth.
use mathlib.Core.Path.{◌≡◌, ap}
use Prim.Native.Nat.{ℕ, ◌-◌, ◌/◌, ◌%◌, ◌^◌, ◌<◌, ◌≤◌, min}
use native.Mathlib.Nat.{div-zero, mod-eq_of_lt, pow-le-pow_right}
use native.Mathlib.Omega.{arith}
use mathlib.Core.Bool.{true, not}
use lib.Count.{count_leading_zeros}
use lib.Dec.{eqb}
use Rattle.rules.specs.Numbers.{top_bits}
use Rattle.rules.specs.Cell.{wide_log2}
use Rattle.rules.specs.Conditions.{bad_data_len, indivisible}
use Rattle.rules.specs.Refusals.{wide_log2_refusal}
use Rattle.rules.specs.Answers.{Refused, answer_of, wide_log2_call}
use Rattle.rules.proofs.Walks.{tops_zero, tops_leading, tops_capped}

-- ---- wideLog2
pub log_no_width : (width size : ℕ) → width ≡ 0 → 0 ≡ wide_log2 width size
unfolding wide_log2
log_no_width width size e = rw (e, div-zero size, tops_zero 32)

pub log_top : (width size t : ℕ) → t ≡ top_bits 32 (size / width) → t - 1 ≡ wide_log2 width size
unfolding wide_log2
log_top width size t e = ap (λ (n : ℕ). n - 1) e

-- ---- indivisible
pub above : (depth k : ℕ) → depth < 4294967296 → 32 < k → not (eqb depth 0) ≡ indivisible depth k
unfolding indivisible
above depth k d h =
    let p : 2 ^ 32 ≤ 2 ^ k = pow-le-pow_right {n = 2} (omega arith) {i = 32} {j = k} (omega arith) in
    let l : depth < 2 ^ k = omega (arith, p) in
    rw (mod-eq_of_lt l)

pub below : (depth k p : ℕ) → p ≡ 2 ^ k → not (eqb (depth % p) 0) ≡ indivisible depth k
unfolding indivisible
below depth k p e = ap (λ (n : ℕ). not (eqb (depth % n) 0)) e

-- ---- the call
pub log_refused : (width size : ℕ) → bad_data_len width size ≡ true → Refused 2 ≡ wide_log2_call width size
unfolding wide_log2_call wide_log2_refusal answer_of
log_refused width size e = rw e

-- ---- the bits of a word, by its leading zeros
pub top_bits_leading : (word zeros : ℕ) → zeros ≡ count_leading_zeros 64 word → min 32 (64 - zeros) ≡ top_bits 32 word
top_bits_leading word zeros e = omega (arith, tops_leading 64 word, tops_capped 32 32 word)
