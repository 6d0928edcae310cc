-- The walk over the bits of a row number: two rows of one memory never have one spot, and each spot lies inside the shape that the sizes give.
use Prim.Native.Nat.{ℕ, zero, suc, ◌+◌, ◌-◌, ◌*◌, ◌/◌, ◌%◌, ◌^◌, ◌≤◌, ◌<◌, ◌∣◌, min}
use mathlib.Core.Path.{◌≡◌, refl, sym, ap, ◌∙◌, subst, subst₂}
use mathlib.Core.Bool.{Bool, true, false, ◌||◌}
use mathlib.Core.Logic.{◌⊎◌, inl, inr, ⊎_elim}
use native.Mathlib.Decide.{dec_lt}
use native.Mathlib.Nat.{dvd-mul_right, pow-succ', pow-suc, mul-div_cancel_left, eq-zero-or-pos, mul-le-mul_right, div-add-mod', mod-lt, div-div-eq-div-mul, mul-div-mul_left, div-one, mod-one, mul_assoc, mul_comm, mul_left_comm, zero-div, zero-mod, dvd_of_mod-eq-zero, mul-div_assoc, dvd_trans, mod-eq-zero_of_dvd, suc-add}
use native.Mathlib.Omega.{arith}
use lib.Count.{count_leading_zeros}
use lib.Dec.{eqb}
use lib.Arith.{mod-mul}
use lib.Pow.{pow_pos, pow-add, pow_mono}
use borrow.Author.Tests.{eq-eqb, ne_eqb}
use Rattle.rules.specs.Numbers.{softs, top_bits}
use Rattle.rules.specs.Geometry.{Spot, to_chunk, hard_left, under, walk}

spot : {a b c d : ℕ} → a ≡ b → c ≡ d → ◌≡◌ {A = Spot} (record { chunk = a; row = c }) (record { chunk = b; row = d })
spot p q = λ i. record { chunk = p i; row = q i }

under_inj : (t : Bool) (b b' : ℕ) (p p' : Spot) → b < 2 → b' < 2 → under t b p ≡ under t b' p' → (b ≡ b') × (p ≡ p')
unfolding under
under_inj true b b' p p' l l' e =
    let k : b + 2 * p.chunk ≡ b' + 2 * p'.chunk = ap (λ (s : Spot). s.chunk) e in
    (omega arith, spot (omega arith) (ap (λ (s : Spot). s.row) e))
under_inj false b b' p p' l l' e =
    let k : b + 2 * p.row ≡ b' + 2 * p'.row = ap (λ (s : Spot). s.row) e in
    (omega arith, spot (ap (λ (s : Spot). s.chunk) e) (omega arith))

half_pow : (n r : ℕ) → r < 2 ^ suc n → r / 2 < 2 ^ n
half_pow n r l = omega (arith, pow-succ' 2 n)

-- two numbers of n bits that walk to one spot are one
pub walk_inj : (n m h r r' : ℕ) → r < 2 ^ n → r' < 2 ^ n → walk n m h r ≡ walk n m h r' → r ≡ r'
unfolding walk
walk_inj zero m h r r' l l' e = omega arith
walk_inj (suc n) m h r r' l l' e =
    let k = under_inj (to_chunk m h) (r % 2) (r' % 2) _ _ (omega arith) (omega arith) e in
    let g : r / 2 ≡ r' / 2 = walk_inj n (m / 2) (hard_left (to_chunk m h) h) (r / 2) (r' / 2) (half_pow n r l) (half_pow n r' l') k.1 in
    omega (arith, k.0)

-- ---- a walk's first step
pub step_chunk : (n m h r : ℕ) → to_chunk m h ≡ true → walk (suc n) m h r ≡ under true (r % 2) (walk n (m / 2) h (r / 2))
unfolding walk hard_left
step_chunk n m h r e = ap (λ (t : Bool). under t (r % 2) (walk n (m / 2) (hard_left t h) (r / 2))) e

pub step_row : (n m h r : ℕ) → to_chunk m h ≡ false → walk (suc n) m h r ≡ under false (r % 2) (walk n (m / 2) (h - 1) (r / 2))
unfolding walk hard_left
step_row n m h r e = ap (λ (t : Bool). under t (r % 2) (walk n (m / 2) (hard_left t h) (r / 2))) e

pub soft_chunk : (m h : ℕ) → m % 2 ≡ 1 → to_chunk m h ≡ true
unfolding to_chunk
soft_chunk m h e = ap (λ (t : Bool). t || eqb h 0) (eq-eqb (m % 2) 1 e)

pub full_chunk : (m h : ℕ) → m % 2 ≡ 0 → h ≡ 0 → to_chunk m h ≡ true
unfolding to_chunk
full_chunk m h e f = ap (λ (t : Bool). t || eqb h 0) (ne_eqb (m % 2) 1 (λ g. omega arith)) ∙ eq-eqb h 0 f

pub hard_row : (m h : ℕ) → m % 2 ≡ 0 → 0 < h → to_chunk m h ≡ false
unfolding to_chunk
hard_row m h e f = ap (λ (t : Bool). t || eqb h 0) (ne_eqb (m % 2) 1 (λ g. omega arith)) ∙ ne_eqb h 0 (λ g. omega arith)

-- ---- a spot lies inside a shape of S soft parts, F full chunks of H rows, and a partial one of P rows
pub record In (S F P H : ℕ) (p : Spot) : Type 0 where
  pub low : p.row < H
  pub inner : (p.chunk < S * F) ⊎ ((p.chunk < S * (F + 1)) × (p.row < P))

in_soft : (S F P H b : ℕ) (p : Spot) → b < 2 → In S F P H p → In (2 * S) F P H (under true b p)
unfolding under
in_soft S F P H b p l k = record {
  low = k.low;
  inner = ⊎_elim (λ c. inl (omega (arith, mul_assoc 2 S F))) (λ c. inr (omega (arith, mul_assoc 2 S (F + 1)), c.1)) k.inner;
}

in_full : (S F b : ℕ) (p : Spot) → b < 2 → In S F 0 1 p → In S (2 * F) 0 1 (under true b p)
unfolding under
in_full S F b p l k = record {
  low = k.low;
  inner = ⊎_elim (λ c. inl (omega (arith, mul_left_comm S 2 F))) (λ c. inr (omega arith)) k.inner;
}

in_row : (S F P H b : ℕ) (p : Spot) → b < 2 → In S F P H p → In S F (2 * P) (2 * H) (under false b p)
unfolding under
in_row S F P H b p l k = record {
  low = omega (arith, k.low);
  inner = ⊎_elim (λ c. inl c) (λ c. inr (c.0, omega arith)) k.inner;
}

-- the shape of a memory of depth d
abbrev pub Inside : ℕ → ℕ → ℕ → Spot → Type 0
Inside s h d p = In (2 ^ s) (d / 2 ^ s / 2 ^ h) (d / 2 ^ s % 2 ^ h) (2 ^ h) p

walk_zero : (n h r : ℕ) → r < 2 ^ n → walk n 0 h r ≡ record { chunk = r / 2 ^ h; row = r % 2 ^ h }
unfolding walk under
walk_zero zero h r l =
    let z : r ≡ 0 = omega arith in
    spot (sym (ap (λ (k : ℕ). k / 2 ^ h) z ∙ zero-div (2 ^ h))) (sym (ap (λ (k : ℕ). k % 2 ^ h) z ∙ zero-mod (2 ^ h)))
walk_zero (suc n) zero r l =
    step_chunk n 0 0 r (full_chunk 0 0 refl refl)
    ∙ ap (under true (r % 2)) (walk_zero n 0 (r / 2) (half_pow n r l))
    ∙ spot (omega arith) (omega arith)
walk_zero (suc n) (suc h) r l =
    step_row n 0 (suc h) r (hard_row 0 (suc h) refl (omega arith))
    ∙ ap (λ (k : ℕ). under false (r % 2) (walk n 0 k (r / 2))) (omega arith)
    ∙ ap (under false (r % 2)) (walk_zero n h (r / 2) (half_pow n r l))
    ∙ spot
    (div-div-eq-div-mul r 2 (2 ^ h) ∙ ap (λ (k : ℕ). r / k) (sym (pow-succ' 2 h)))
    (sym (ap (λ (k : ℕ). r % k) (pow-suc 2 h) ∙ mod-mul r (pow_pos h) (omega arith) ∙ omega arith))

pub lt_or_le : (a b : ℕ) → (a < b) ⊎ (b ≤ a)
lt_or_le a b = elim (dec_lt a b) [ yes p ↦ inl p | no q ↦ inr (omega arith) ]

-- with no soft bit the chunk is the quotient and the row the remainder
inside_quot : (H r d : ℕ) → 0 < H → r < d → In 1 (d / H) (d % H) H (record { chunk = r / H; row = r % H })
inside_quot H r d pos l = record {
  low = mod-lt r pos;
  inner = ⊎_elim (λ k. inl (omega arith))
      (λ k. inr (
        ⊎_elim
            (λ g. omega arith)
            (λ g. absurd (omega (arith, mul-le-mul_right H g, div-add-mod' r H, div-add-mod' d H, mod-lt d pos, mod-lt r pos)))
            (lt_or_le (r / H) (d / H + 1)),
        omega (arith, mul-le-mul_right H k, div-add-mod' r H, div-add-mod' d H),
      ))
      (lt_or_le (r / H) (d / H));
}

inside_zero : (n h r d : ℕ) → r < 2 ^ n → r < d → Inside 0 h d (walk n 0 h r)
inside_zero n h r d l k = rw (walk_zero n h r l, div-one) (inside_quot (2 ^ h) r d (pow_pos h) k)

mod_two : (a b : ℕ) → 0 < b → 2 * a % (2 * b) ≡ 2 * (a % b)
mod_two a b pos =
    ap (λ (k : ℕ). 2 * a % k) (mul_comm 2 b) ∙ mod-mul (2 * a) pos (omega arith)
    ∙ ap (λ (k : ℕ). (k % b) * 2 + 2 * a % 2) (mul-div_cancel_left a (omega arith)) ∙ omega arith

-- a row of the lower half of a memory of twice the depth, one bit longer
conv_soft : (s h d b : ℕ) (p : Spot) → b < 2 → Inside s h d p → Inside (suc s) h (2 * d) (under true b p)
conv_soft s h d b p l k =
    let e : 2 * d / 2 ^ suc s ≡ d / 2 ^ s = ap (λ (x : ℕ). 2 * d / x) (pow-succ' 2 s) ∙ mul-div-mul_left d (2 ^ s) (omega arith) in
    rw (e, pow-succ' 2 s) (in_soft _ _ _ _ b p l k)

conv_full : (s d b : ℕ) (p : Spot) → d % 2 ^ s ≡ 0 → b < 2 → Inside s 0 d p → Inside s 0 (2 * d) (under true b p)
conv_full s d b p v l k =
    let e : 2 * d / 2 ^ s ≡ 2 * (d / 2 ^ s) = mul-div_assoc (2 ^ s) 2 (dvd_of_mod-eq-zero (2 ^ s) v) in
    rw (e, div-one (2 * (d / 2 ^ s)), mod-one (2 * (d / 2 ^ s))) (in_full _ _ b p l (rw (div-one (d / 2 ^ s), mod-one (d / 2 ^ s)) at k))

conv_row : (s h d b : ℕ) (p : Spot) → d % 2 ^ s ≡ 0 → b < 2 → Inside s h d p → Inside s (suc h) (2 * d) (under false b p)
conv_row s h d b p v l k =
    let e : 2 * d / 2 ^ s ≡ 2 * (d / 2 ^ s) = mul-div_assoc (2 ^ s) 2 (dvd_of_mod-eq-zero (2 ^ s) v) in
    rw (e, pow-succ' 2 h, mul-div-mul_left {m = 2} (d / 2 ^ s) (2 ^ h) (omega arith), mod_two (d / 2 ^ s) (2 ^ h) (pow_pos h)) (in_row _ _ _ _ b p l k)

-- ---- the soft bits, and the bits up to the top one
softs_zero : (n : ℕ) → softs n 0 ≡ 0
unfolding softs
softs_zero zero = refl
softs_zero (suc n) = omega (arith, softs_zero n)

pub tops_pos : (n m : ℕ) → 0 < m → top_bits (suc n) m ≡ suc (top_bits n (m / 2))
unfolding top_bits
tops_pos n m l = rw (ne_eqb m 0 (λ e. omega arith), top_bits)

softs_tops : (n m : ℕ) → softs n m ≤ top_bits n m
unfolding softs top_bits
softs_tops zero m = omega arith
softs_tops (suc n) m =
    ⊎_elim (λ e. subst (λ (k : ℕ). softs (suc n) k ≤ top_bits (suc n) k) (sym e) (omega (arith, softs_zero n)))
    (λ l. omega (arith, softs_tops n (m / 2), tops_pos n m l))
    (eq-zero-or-pos m)

-- what divides by a power divides by a lower one
pow_down : (s t d : ℕ) → s ≤ t → d % 2 ^ t ≡ 0 → d % 2 ^ s ≡ 0
pow_down s t d l e =
    let q : 2 ^ t ≡ 2 ^ s * 2 ^ (t - s) = ap (λ (k : ℕ). 2 ^ k) (omega arith) ∙ pow-add 2 s (t - s) in
    mod-eq-zero_of_dvd (2 ^ s) (dvd_trans (2 ^ s) (subst (λ (k : ℕ). ◌∣◌ (2 ^ s) k) (sym q) (dvd-mul_right (2 ^ s) (2 ^ (t - s)))) (dvd_of_mod-eq-zero (2 ^ t) e))

even_down : (t d : ℕ) → d % 2 ^ suc t ≡ 0 → (d % 2 ≡ 0) × (d / 2 % 2 ^ t ≡ 0)
even_down t d e =
    let k : (d / 2 % 2 ^ t) * 2 + d % 2 ≡ 0 = sym (mod-mul d (pow_pos t) (omega arith)) ∙ ap (λ (x : ℕ). d % x) (sym (pow-suc 2 t)) ∙ e in
    omega arith

pub softs-soft : (n m : ℕ) → m % 2 ≡ 1 → softs (suc n) m ≡ suc (softs n (m / 2))
unfolding softs
softs-soft n m e = omega arith

pub softs_hard : (n m : ℕ) → m % 2 ≡ 0 → softs (suc n) m ≡ softs n (m / 2)
unfolding softs
softs_hard n m e = omega arith

-- ---- every row of the memory has its spot inside the shape
abbrev Fine : ℕ → ℕ → ℕ → ℕ → ℕ → Type 0
Fine n m h r d = Inside (softs n m) h d (walk n m h r)

soft-case : (n m h r d : ℕ) → m % 2 ≡ 1 → Fine n (m / 2) h (r / 2) d → Fine (suc n) m h r (2 * d)
soft-case n m h r d e k =
    subst₂ (λ (s : ℕ) (p : Spot). Inside s h (2 * d) p) (sym (softs-soft n m e)) (sym (step_chunk n m h r (soft_chunk m h e)))
    (conv_soft (softs n (m / 2)) h d (r % 2) _ (omega arith) k)

hard_case : (n m h r d : ℕ) → m % 2 ≡ 0 → d % 2 ^ softs n (m / 2) ≡ 0 → ((k : ℕ) → Fine n (m / 2) k (r / 2) d) → Fine (suc n) m h r (2 * d)
hard_case n m zero r d e v k =
    subst₂ (λ (s : ℕ) (p : Spot). Inside s 0 (2 * d) p) (sym (softs_hard n m e)) (sym (step_chunk n m 0 r (full_chunk m 0 e refl)))
    (conv_full (softs n (m / 2)) d (r % 2) _ v (omega arith) (k 0))
hard_case n m (suc h) r d e v k =
    subst₂ (λ (s : ℕ) (p : Spot). Inside s (suc h) (2 * d) p) (sym (softs_hard n m e))
    (sym (step_row n m (suc h) r (hard_row m (suc h) e (omega arith)) ∙ ap (λ (x : ℕ). under false (r % 2) (walk n (m / 2) x (r / 2))) (omega arith)))
    (conv_row (softs n (m / 2)) h d (r % 2) _ v (omega arith) (k h))

pub inside : (n m h r d : ℕ) → m < 2 ^ n → r < d → d ≤ 2 ^ n → d % 2 ^ top_bits n m ≡ 0 → Fine n m h r d
unfolding softs walk
inside zero m h r d lm lr ld e = inside_zero zero h r d (omega arith) lr
inside (suc n) m h r d lm lr ld e =
    ⊎_elim
    (λ z. subst (λ (k : ℕ). Fine (suc n) k h r d) (sym z)
    (subst (λ (s : ℕ). Inside s h d (walk (suc n) 0 h r)) (sym (softs_zero (suc n))) (inside_zero (suc n) h r d (omega arith) lr)))
    (λ z.
    let t = top_bits n (m / 2) in
    let v = even_down t d (subst (λ (k : ℕ). d % 2 ^ k ≡ 0) (tops_pos n m z) e) in
    let two : 2 * (d / 2) ≡ d = omega (arith, v.0) in
    let ih : (h' : ℕ) → Fine n (m / 2) h' (r / 2) (d / 2) =
    λ h'. inside n (m / 2) h' (r / 2) (d / 2) (half_pow n m lm) (omega (arith, v.0)) (omega (arith, pow-succ' 2 n)) v.1 in
    let w = pow_down (softs n (m / 2)) t (d / 2) (softs_tops n (m / 2)) v.1 in
    subst (λ (k : ℕ). Fine (suc n) m h r k) two
    (⊎_elim
    (λ o. soft-case n m h r (d / 2) (omega arith) (ih h))
    (λ o. hard_case n m h r (d / 2) (omega arith) w ih)
    (lt_or_le 0 (m % 2))))
    (eq-zero-or-pos m)

-- ---- for the code
pub walk_pos : (n m h r : ℕ) → 0 < n → walk n m h r ≡ under (to_chunk m h) (r % 2) (walk (n - 1) (m / 2) (hard_left (to_chunk m h) h) (r / 2))
unfolding walk
walk_pos zero m h r l = absurd (omega arith)
walk_pos (suc n) m h r l =
    let e : n ≡ suc n - 1 = omega arith in
    ap (λ (k : ℕ). under (to_chunk m h) (r % 2) (walk k (m / 2) (hard_left (to_chunk m h) h) (r / 2))) e

under_le : (t : Bool) (r : ℕ) (p : Spot) → (p.chunk ≤ r / 2) × (p.row ≤ r / 2) → ((under t (r % 2) p).chunk ≤ r) × ((under t (r % 2) p).row ≤ r)
unfolding under
under_le true r p h = omega arith
under_le false r p h = omega arith

-- neither number is larger than the row number
pub walk_le : (n m h r : ℕ) → ((walk n m h r).chunk ≤ r) × ((walk n m h r).row ≤ r)
unfolding walk
walk_le zero m h r = omega arith
walk_le (suc n) m h r = under_le (to_chunk m h) r _ (walk_le n (m / 2) (hard_left (to_chunk m h) h) (r / 2))

pub softs_pos : (n m : ℕ) → 0 < n → softs n m ≡ m % 2 + softs (n - 1) (m / 2)
unfolding softs
softs_pos zero m l = absurd (omega arith)
softs_pos (suc n) m l =
    let e : n ≡ suc n - 1 = omega arith in
    ap (λ (k : ℕ). m % 2 + softs k (m / 2)) e

pub softs_le : (n m : ℕ) → softs n m ≤ n
unfolding softs
softs_le zero m = omega arith
softs_le (suc n) m = omega (arith, softs_le n (m / 2))

pub tops_le : (n m : ℕ) → top_bits n m ≤ n
unfolding top_bits
tops_le zero m = omega arith
tops_le (suc n) m = ⊎_elim
    (λ e. subst (λ (k : ℕ). top_bits (suc n) k ≤ suc n) (sym e) (omega arith))
    (λ l. omega (arith, tops_pos n m l, tops_le n (m / 2)))
    (eq-zero-or-pos m)

pub tops_zero : (n : ℕ) → top_bits n 0 ≡ 0
unfolding top_bits
tops_zero zero = refl
tops_zero (suc n) = refl

pub tops_more : (n m : ℕ) → 0 < n → 0 < m → top_bits n m ≡ top_bits (n - 1) (m / 2) + 1
tops_more zero m l k = absurd (omega arith)
tops_more (suc n) m l k =
    let e : n ≡ suc n - 1 = omega arith in
    tops_pos n m k ∙ ap (λ (j : ℕ). suc (top_bits j (m / 2))) e ∙ omega arith

pub pow_pos_suc : (k : ℕ) → 0 < k → 2 ^ k ≡ 2 * 2 ^ (k - 1)
pow_pos_suc zero l = absurd (omega arith)
pow_pos_suc (suc k) l =
    let e : k ≡ suc k - 1 = omega arith in
    pow-succ' 2 k ∙ ap (λ (j : ℕ). 2 * 2 ^ j) e

pub pow_32 : (k : ℕ) → k ≤ 32 → 2 ^ k ≤ 4294967296
pow_32 k l = pow_mono l

pub top_none : (n m : ℕ) → n ≡ 0 → top_bits n m ≡ 0
unfolding top_bits
top_none n m e = ap (λ (k : ℕ). top_bits k m) e

-- ---- the highest bit, by the zeros above it
pub tops_leading : (n m : ℕ) → count_leading_zeros n m + top_bits n m ≡ n
unfolding top_bits count_leading_zeros
tops_leading zero m = refl
tops_leading (suc n) zero = omega arith
tops_leading (suc n) (suc m) = omega (arith, tops_leading n (suc m / 2), tops_pos n (suc m) (omega arith))

-- among fewer bits
pub tops_capped : (n k m : ℕ) → top_bits n m ≡ min n (top_bits (n + k) m)
unfolding top_bits
tops_capped zero k m = omega arith
tops_capped (suc n) k zero = rw suc-add (omega arith)
tops_capped (suc n) k (suc m) = rw suc-add (omega (arith, tops_capped n k (suc m / 2), tops_pos n (suc m) (omega arith), tops_pos (n + k) (suc m) (omega arith)))
