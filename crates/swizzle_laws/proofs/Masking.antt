-- The spot of a piece is the walk over its number, by the mask of the bits that select a row.
use mathlib.Core.Path.{◌≡◌, refl, sym, ap, ◌∙◌}
use Prim.Native.Nat.{ℕ, zero, suc, ◌+◌, ◌-◌, ◌*◌, ◌/◌, ◌%◌, ◌^◌, ◌≤◌, ◌<◌}
use native.Mathlib.Nat.{mul_assoc, one-mul, pow-succ'}
use native.Mathlib.Omega.{arith}
use mathlib.Core.Bool.{Bool, true, false, not}
use mathlib.Core.List.{List, [], ◌∷◌, ◌++◌}
use lib.ListN.{length, replicate}
use borrow.Author.Tests.{eq-eqb, ne_eqb}
use Rattle.rules.specs.Log.{flag}
use Rattle.rules.specs.Geometry.{Spot, under, to_chunk, hard_left, walk}
use Rattle.rules.specs.Swizzle.{Role, High, is_chunk, spot_by}
use Rattle.rules.proofs.Walks.{walk_le}
use Rattle.swizzle_laws.specs.Masks.{rows_mask}
use Rattle.swizzle_laws.proofs.Within.{spot_cons, halves}

-- ---- the mask of roles in sequence
pub rows_append : (a b : List Role) → rows_mask (a ++ b) ≡ rows_mask a + 2 ^ length a * rows_mask b
unfolding rows_mask
rows_append [] b = omega (arith, one-mul (rows_mask b))
rows_append (r ∷ a) b =
    ap (λ (n : ℕ). flag (not (is_chunk r)) + 2 * n) (rows_append a b)
    ∙ omega (arith, mul_assoc 2 (2 ^ length a) (rows_mask b), ap (λ (n : ℕ). n * rows_mask b) (pow-succ' 2 (length a)))

pub rows_high : (n : ℕ) → rows_mask (replicate n High) ≡ 0
unfolding rows_mask is_chunk flag
rows_high zero = refl
rows_high (suc n) = omega (arith, rows_high n)

flag_le : (b : Bool) → flag b ≤ 1
unfolding flag
flag_le true = omega arith
flag_le false = omega arith

pub rows_below : (rs : List Role) → rows_mask rs < 2 ^ length rs
unfolding rows_mask
rows_below [] = omega arith
rows_below (r ∷ rs) = below _ _ _ _ (flag_le (not (is_chunk r))) (rows_below rs) (pow-succ' 2 (length rs))
  where
    below : (b m p q : ℕ) → b ≤ 1 → m < p → q ≡ 2 * p → b + 2 * m < q
    below b m p q h g e = omega arith

-- ---- number 0 selects nothing
under_none : (b : Bool) (p : Spot) → p ≡ record { chunk = 0; row = 0 } → under b 0 p ≡ record { chunk = 0; row = 0 }
unfolding under
under_none true p e = rw e
under_none false p e = rw e

spot_none : (rs : List Role) (x : ℕ) → x ≡ 0 → spot_by rs x ≡ record { chunk = 0; row = 0 }
unfolding spot_by
spot_none [] x e = refl
spot_none (r ∷ rs) x e =
    let z : x % 2 ≡ 0 = omega arith in
    rw z (under_none (is_chunk r) (spot_by rs (x / 2)) (spot_none rs (x / 2) (omega arith)))

walk_none : (n mask hard x : ℕ) → x ≡ 0 → walk n mask hard x ≡ record { chunk = 0; row = 0 }
walk_none n mask hard x e =
    let s = walk n mask hard x in
    let l = walk_le n mask hard x in
    λ i. record { chunk = none s.chunk l.0 i; row = none s.row l.1 i }
  where
    none : (y : ℕ) → y ≤ x → y ≡ 0
    none y h = omega arith

-- ---- one bit
walk_suc : (n mask hard x : ℕ) → walk (suc n) mask hard x ≡ under (to_chunk mask hard) (x % 2) (walk n (mask / 2) (hard_left (to_chunk mask hard) hard) (x / 2))
unfolding walk
walk_suc n mask hard x = refl

by_chunk : (r : Bool) (mask hard : ℕ) → 0 < hard → mask % 2 ≡ 1 - flag (not r) → to_chunk mask hard ≡ r
unfolding to_chunk flag
by_chunk true mask hard h e = rw (eq-eqb (mask % 2) 1 e)
by_chunk false mask hard h e = rw (ne_eqb (mask % 2) 1 (λ z. absurd (omega arith)), ne_eqb hard 0 (λ z. absurd (omega arith)))

hard_le : (b : Bool) (n hard : ℕ) → suc n ≤ hard → n ≤ hard_left b hard
unfolding hard_left
hard_le true n hard h = omega arith
hard_le false n hard h = omega arith

low_bit : (p q b m : ℕ) → q ≡ 2 * p → b ≤ 1 → m < p → (q - 1 - (b + 2 * m)) % 2 ≡ 1 - b
low_bit p q b m e h g = omega arith

high_bits : (p q b m : ℕ) → q ≡ 2 * p → b ≤ 1 → m < p → (q - 1 - (b + 2 * m)) / 2 ≡ p - 1 - m
high_bits p q b m e h g = omega arith

low_mask : (b m p q : ℕ) → q ≡ 2 * p → b + 2 * m < q → m < p
low_mask b m p q e h = omega arith

rows_cons : (r : Role) (rs : List Role) → rows_mask (r ∷ rs) ≡ flag (not (is_chunk r)) + 2 * rows_mask rs
unfolding rows_mask
rows_cons r rs = refl

bit_step : (c : Bool) (n hard x mask m : ℕ) (p : Spot) → suc n ≤ hard → mask ≡ 2 ^ suc n - 1 - (flag (not c) + 2 * m) → m < 2 ^ n
    → p ≡ walk n (2 ^ n - 1 - m) (hard_left c hard) (x / 2) → under c (x % 2) p ≡ walk (suc n) mask hard x
bit_step c n hard x mask m p l e k ih =
    let d : 2 ^ suc n ≡ 2 * 2 ^ n = pow-succ' 2 n in
    let b = flag_le (not c) in
    let t : to_chunk mask hard ≡ c = by_chunk c mask hard (omega arith) (ap (λ (y : ℕ). y % 2) e ∙ low_bit (2 ^ n) (2 ^ suc n) (flag (not c)) m d b k) in
    let q : mask / 2 ≡ 2 ^ n - 1 - m = ap (λ (y : ℕ). y / 2) e ∙ high_bits (2 ^ n) (2 ^ suc n) (flag (not c)) m d b k in
    sym (
    walk_suc n mask hard x
    ∙ ap (λ (u : Bool). under u (x % 2) (walk n (mask / 2) (hard_left u hard) (x / 2))) t
    ∙ ap (λ (y : ℕ). under c (x % 2) (walk n y (hard_left c hard) (x / 2))) q
    ∙ ap (under c (x % 2)) (sym ih)
    )

-- the walk over n bits, of which all those that select no row are soft
pub spot_walk : (rs : List Role) (n hard x : ℕ) → x < 2 ^ length rs → x < 2 ^ n → n ≤ hard → rows_mask rs < 2 ^ n → spot_by rs x ≡ walk n (2 ^ n - 1 - rows_mask rs) hard x
spot_walk rs zero hard x h g l m = let z : x ≡ 0 = omega arith in spot_none rs x z ∙ sym (walk_none 0 _ hard x z)
spot_walk [] (suc n) hard x h g l m = let z : x ≡ 0 = omega arith in spot_none [] x z ∙ sym (walk_none (suc n) _ hard x z)
spot_walk (r ∷ rs) (suc n) hard x h g l m =
    let k : rows_mask rs < 2 ^ n = low_mask (flag (not (is_chunk r))) (rows_mask rs) (2 ^ n) (2 ^ suc n) (pow-succ' 2 n) (rw (← rows_cons r rs) m) in
    spot_cons r rs x
    ∙ bit_step (is_chunk r) n hard x (2 ^ suc n - 1 - rows_mask (r ∷ rs)) (rows_mask rs) (spot_by rs (x / 2)) l (ap (λ (y : ℕ). 2 ^ suc n - 1 - y) (rows_cons r rs)) k
    (spot_walk rs n (hard_left (is_chunk r) hard) (x / 2) (halves x (2 ^ length rs) _ (pow-succ' 2 (length rs)) h) (halves x (2 ^ n) _ (pow-succ' 2 n) g) (hard_le (is_chunk r) n hard l) k)
