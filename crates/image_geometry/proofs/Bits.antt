-- What std's functions of numbers give, in the rules' words.
use Prim.Native.Nat.{ℕ, zero, suc, ◌+◌, ◌-◌, ◌*◌, ◌/◌, ◌%◌, ◌^◌, ◌≤◌, ◌<◌, min}
use mathlib.Core.Path.{◌≡◌, refl, sym, ap, ◌∙◌}
use native.Mathlib.Omega.{arith}
use native.Mathlib.Nat.{div-eq_of_lt-le, add-mul, one-mul, pow-succ'}
use lib.Count.{count_leading_zeros, ones, ones_in}
use Rattle.std.proofs.lemmas.Grind.{div_ceil_times}
use native.Mathlib.Numerals.{add-one}
use Rattle.std.proofs.lemmas.Nat.{ones_cat, mod-pow-add}
use Rattle.lists.proofs.Choice.{cases_le}
use Rattle.rules.specs.Numbers.{ceil_div, softs, top_bits}
use Rattle.rules.specs.Geometry.{soft_bits}
use Rattle.rules.proofs.Walks.{tops_pos}

-- `div_ceil`
pub ceil_is : (a b : ℕ) → 0 < b → a / b + min 1 (a % b) ≡ ceil_div a b
unfolding ceil_div
ceil_is a b l =
    let t = div_ceil_times a b l in
    sym (div-eq_of_lt-le b (low a b _ t.1) (high a b _ l (add-mul (a / b + min 1 (a % b)) 1 b) (one-mul b) t.0))
  where
    low : (a b x : ℕ) → x < a + b → x ≤ a + (b - 1)
    low a b x h = omega arith

    high : (a b x : ℕ) {y z : ℕ} → 0 < b → y ≡ x + z → z ≡ b → a ≤ x → a + (b - 1) < y
    high a b x k e f h = omega arith

-- `count_ones`
bit_ones : (b : ℕ) → b < 2 → ones b ≡ b
unfolding ones ones_in
bit_ones zero l = refl
bit_ones (suc zero) l = refl
bit_ones (suc (suc b)) l = absurd (omega arith)

half_ones : (m : ℕ) → ones m ≡ ones (m / 2) + m % 2
half_ones m =
    let e : m ≡ m / 2 * 2 ^ 1 + m % 2 = omega arith in
    let l : m % 2 < 2 = omega arith in
    ap ones e ∙ ones_cat 1 (m / 2) (m % 2) l ∙ ap (λ (k : ℕ). ones (m / 2) + k) (bit_ones (m % 2) l)

softs_ones : (n m : ℕ) → m < 2 ^ n → ones m ≡ softs n m
unfolding softs ones ones_in
softs_ones zero m l =
    let z : m ≡ 0 = omega arith in
    ap ones z
softs_ones (suc n) m l =
    let h : m / 2 < 2 ^ n = omega (arith, pow-succ' 2 n) in
    omega (arith, half_ones m, softs_ones n (m / 2) h)

pub soft_ones : (m : ℕ) → m < 4294967296 → ones m ≡ soft_bits m
unfolding soft_bits
soft_ones m l = softs_ones 32 m l

-- the soft bits among the lowest ones
none_soft : (n : ℕ) → softs n 0 ≡ 0
unfolding softs
none_soft zero = refl
none_soft (suc n) = omega (arith, none_soft n)

low_more : (m k : ℕ) → m % 2 ^ suc k ≡ (m / 2 % 2 ^ k) * 2 + m % 2
low_more m k = rw add-one at (mod-pow-add m k 1)

softs_low : (n k m : ℕ) → k ≤ n → softs n (m % 2 ^ k) ≡ softs k m
unfolding softs
softs_low n zero m h = let e : m % 1 ≡ 0 = omega arith in ap (softs n) e ∙ none_soft n
softs_low zero (suc k) m h = absurd (omega arith)
softs_low (suc n) (suc k) m h =
    let e = low_more m k in
    let a : m % 2 ^ suc k % 2 ≡ m % 2 = omega arith in
    let b : m % 2 ^ suc k / 2 ≡ m / 2 % 2 ^ k = omega arith in
    (λ i. a i + softs n (b i)) ∙ ap (λ (x : ℕ). m % 2 + x) (softs_low n k (m / 2) (omega arith))

softs_more : (n k m : ℕ) → n ≤ k → m < 2 ^ n → softs n m ≡ softs k m
unfolding softs
softs_more zero k m h l = let z : m ≡ 0 = omega arith in sym (ap (softs k) z ∙ none_soft k)
softs_more (suc n) zero m h l = absurd (omega arith)
softs_more (suc n) (suc k) m h l = ap (λ (x : ℕ). m % 2 + x) (softs_more n k (m / 2) (omega arith) (omega (arith, pow-succ' 2 n)))

pub low_softs : (k mask m w n : ℕ) → mask < 4294967296 → m ≡ mask → w ≡ 2 ^ min k 32 → n ≡ soft_bits (m % w) → n ≡ softs k mask
unfolding soft_bits
low_softs k mask m w n l e f g =
    let x : n ≡ softs (min k 32) mask = g ∙ (λ i. softs 32 (e i % f i)) ∙ softs_low 32 (min k 32) mask (omega arith) in
    cases_le k 32
    (λ h. let q : min k 32 ≡ k = omega arith in x ∙ ap (λ (j : ℕ). softs j mask) q)
    (λ h. let q : min k 32 ≡ 32 = omega arith in x ∙ ap (λ (j : ℕ). softs j mask) q ∙ softs_more 32 k mask (omega arith) l)

-- `leading_zeros`
pub tops_leading : (n m : ℕ) → count_leading_zeros n m + top_bits n m ≡ n
unfolding top_bits count_leading_zeros
tops_leading zero m = refl
tops_leading (suc n) zero = omega arith
tops_leading (suc n) (suc m) = omega (arith, tops_leading n (suc m / 2), tops_pos n (suc m) (omega arith))
