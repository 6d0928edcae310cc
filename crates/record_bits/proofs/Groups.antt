-- A known byte and a value byte, one bit of each.
use mathlib.Core.Path.{◌≡◌, refl, sym, ap, ◌∙◌}
use mathlib.Core.Logic.{◌⊎◌, inl, inr}
use mathlib.Core.Bool.{Bool, true, false, ◌||◌}
use Prim.Native.Nat.{ℕ, zero, suc, ◌+◌, ◌-◌, ◌/◌, ◌%◌, ◌^◌, ◌<◌, ◌≤◌, min}
use native.Mathlib.Nat.{pow-suc, pow-succ', div-one, div-div-eq-div-mul}
use native.Mathlib.Numerals.{add-one}
use native.Mathlib.Omega.{arith}
use mathlib.Core.List.{List, [], ◌∷◌, ◌++◌, map}
use lib.ListN.{length, take, drop, get_or, set}
use lib.Seq.{sets, take_all, take-nil, drop-nil}
use Rattle.std.proofs.Math.ListN.{get_or-eq_default}
use Rattle.rules.proofs.Written.{length_uint}
use lib.Dec.{eqb, ltb, leb}
use borrow.Author.Tests.{le-leb, lt-leb}
use Rattle.lists.specs.Lists.{any, pairs}
use Rattle.lists.proofs.Choice.{cases_le}
use Rattle.lists.proofs.Pairs.{length_pairs}
use Rattle.lists.proofs.Joined.{or_assoc, any-joined}
use Rattle.std.specs.List.{range_with_len}
use Rattle.rules.specs.Value.{from_uint}
use Rattle.rules.specs.Record.{trit_by}
use Rattle.record_bits.specs.Groups.{trits_by, group_trits, bad_by, bad_pair}

-- ---- the bits of a number
pub bit_of : (n b i : ℕ) → i < n → b / 2 ^ i % 2 ≡ get_or (from_uint n b) i 0
unfolding from_uint
bit_of zero b i h = absurd (omega arith)
bit_of (suc n) b zero h = rw (div-one b)
bit_of (suc n) b (suc i) h = rw (pow-succ' 2 i, ← div-div-eq-div-mul b 2 (2 ^ i)) (bit_of n (b / 2) i (omega arith))

pub bit_past : (n b i : ℕ) → n ≤ i → get_or (from_uint n b) i 0 ≡ 0
bit_past n b i h = get_or-eq_default (from_uint n b) 0 (omega (arith, length_uint n b))

uint_step : (n x i : ℕ) → i < n → from_uint (n - i) x ≡ x % 2 ∷ from_uint (n - (i + 1)) (x / 2)
unfolding from_uint
uint_step n x i h =
    let e : n - i ≡ suc (n - (i + 1)) = omega arith in
    rw e

-- ---- trits
-- those left from bit i on
abbrev pub trits_left : (count k v i : ℕ) → List ℕ
trits_left count k v i = trits_by (count - i) (from_uint (8 - i) k) (from_uint (8 - i) v)

pub trits_turn : (l : List ℕ) (at count k v i r : ℕ) → i < min count 8 → r ≡ trit_by (k % 2) (v % 2)
    → sets (set l (at + i) r) (at + (i + 1)) (trits_left count (k / 2) (v / 2) (i + 1)) ≡ sets l (at + i) (trits_left count k v i)
trits_turn l at count k v i r h e =
    let a : at + (i + 1) ≡ suc (at + i) = omega arith in
    let b : count - i ≡ suc (count - (i + 1)) = omega arith in
    rw (uint_step 8 k i (omega arith), uint_step 8 v i (omega arith), b, a, e)

trits_none : (n m x y : ℕ) → (n ≡ 0) ⊎ (m ≡ 0) → trits_by n (from_uint m x) (from_uint m y) ≡ []
unfolding from_uint
trits_none n m x y (inl e) = rw e
trits_none n m x y (inr e) = rw (e, take-nil {A = ℕ × ℕ} n)

pub trits_end : (l : List ℕ) (at count k v i : ℕ) → min count 8 ≤ i → sets l at (trits_left count k v i) ≡ l
trits_end l at count k v i h =
    ap (sets l at) (cases_le count i (λ g. trits_none (count - i) (8 - i) k v (inl (omega arith))) (λ g. trits_none (count - i) (8 - i) k v (inr (omega arith))))

-- of eight or more, all the trits are there
pub group_whole : (count k v : ℕ) → 8 ≤ count → group_trits 8 k v ≡ group_trits count k v
unfolding group_trits
group_whole count k v h =
    let ps = pairs (from_uint 8 k) (from_uint 8 v) in
    let e : length ps ≡ 8 = length_pairs (from_uint 8 k) (from_uint 8 v) (length_uint 8 k ∙ sym (length_uint 8 v)) ∙ length_uint 8 k in
    ap (map (λ p. trit_by p.0 p.1)) (take_all 8 ps (omega (arith, e)) ∙ sym (take_all count ps (omega (arith, e))))

-- ---- errors
or_shift : (a b x y : Bool) → (a || (x || (b || y))) ≡ ((a || b) || (x || y))
or_shift true b x y = refl
or_shift false true true y = refl
or_shift false false true y = refl
or_shift false b false y = refl

-- one bit more of each list
bad_more : (n k v : ℕ) (ks vs : List ℕ) → bad_by n (k ∷ ks) (v ∷ vs) ≡ (bad_pair (leb n 0) k v || bad_by (n - 1) ks vs)
bad_more zero k v ks vs =
    rw (any-joined (eqb 1) ks (v ∷ vs), any-joined (eqb 1) ks vs) (or_shift (eqb 1 k) (eqb 1 v) (any (eqb 1) ks) (any (eqb 1) vs))
bad_more (suc n) k v ks vs =
    let e : suc n - 1 ≡ n = omega arith in
    rw (e, lt-leb (suc n) 0 (omega arith)) (or_assoc (ltb k v) (any (λ p. ltb p.0 p.1) (take n (pairs ks vs))) (any (eqb 1) (drop n ks ++ drop n vs)))

-- those left from bit i on
abbrev pub bad_left : (count k v i : ℕ) → Bool
bad_left count k v i = bad_by (count - i) (from_uint (8 - i) k) (from_uint (8 - i) v)

spare : (count i : ℕ) → leb (count - i) 0 ≡ leb count i
spare count i =
    cases_le count i
    (λ h. le-leb (count - i) 0 (omega arith) ∙ sym (le-leb count i h))
    (λ h. lt-leb (count - i) 0 (omega arith) ∙ sym (lt-leb count i h))

pub bad_turn : (count k v i : ℕ) → i < 8 → bad_left count k v i ≡ (bad_pair (leb count i) (k % 2) (v % 2) || bad_left count (k / 2) (v / 2) (i + 1))
bad_turn count k v i h =
    let e : count - (i + 1) ≡ count - i - 1 = omega arith in
    rw (uint_step 8 k i h, uint_step 8 v i h, e, ← spare count i) (bad_more (count - i) (k % 2) (v % 2) (from_uint (8 - (i + 1)) (k / 2)) (from_uint (8 - (i + 1)) (v / 2)))

pub bad_end : (count k v i : ℕ) → 8 ≤ i → bad_left count k v i ≡ false
unfolding from_uint
bad_end count k v i h =
    let e : 8 - i ≡ 0 = omega arith in
    rw (e, take-nil {A = ℕ × ℕ} (count - i), drop-nil {A = ℕ} (count - i))

-- ---- the same by the places of the bits
halved : (x i : ℕ) → x / 2 ^ (i + 1) ≡ x / 2 ^ i / 2
halved x i = ap (λ (k : ℕ). x / k) (ap (λ (j : ℕ). 2 ^ j) (add-one i) ∙ pow-suc 2 i) ∙ sym (div-div-eq-div-mul x (2 ^ i) 2)

bads_any : (count k v n i : ℕ) → i + n ≡ 8
    → any (λ j. bad_pair (leb count j) (get_or (from_uint 8 k) j 0) (get_or (from_uint 8 v) j 0)) (range_with_len i n) ≡ bad_left count (k / 2 ^ i) (v / 2 ^ i) i
bads_any count k v zero i e = sym (bad_end count (k / 2 ^ i) (v / 2 ^ i) i (omega (arith, e)))
bads_any count k v (suc n) i e =
    let half : (x : ℕ) → x / 2 ^ (i + 1) ≡ x / 2 ^ i / 2 = λ x. halved x i in
    rw (bad_turn count (k / 2 ^ i) (v / 2 ^ i) i (omega (arith, e)), bit_of 8 k i (omega (arith, e)), bit_of 8 v i (omega (arith, e)), ← half k, ← half v)
    (ap (λ (t : Bool). bad_pair (leb count i) (get_or (from_uint 8 k) i 0) (get_or (from_uint 8 v) i 0) || t) (bads_any count k v n (i + 1) (omega (arith, e))))

pub all_bads : (count k v : ℕ) → any (λ j. bad_pair (leb count j) (get_or (from_uint 8 k) j 0) (get_or (from_uint 8 v) j 0)) (range_with_len 0 8) ≡ bad_by count (from_uint 8 k) (from_uint 8 v)
all_bads count k v =
    let z : count - 0 ≡ count = omega arith in
    bads_any count k v 8 0 (omega arith) ∙ (rw (div-one k, div-one v, z))
