-- Bit arrays: the bits of packed bits are those bits and then zeros; a trit is known and value, and back.
use Prim.Native.Nat.{ℕ, zero, suc, ◌+◌, ◌-◌, ◌*◌, ◌/◌, ◌%◌, ◌≤◌, ◌<◌}
use mathlib.Core.Path.{◌≡◌, refl, ap}
use mathlib.Core.Bool.{Bool, true, false}
use mathlib.Core.List.{List, [], ◌∷◌, ◌++◌, map, append_assoc, append-nil}
use native.Mathlib.Omega.{arith}
use native.Mathlib.Nat.{suc-sub-suc, sub-zero}
use lib.Dec.{leb}
use lib.ListN.{length, take, drop, replicate, length-take, length-drop, take-append-drop, drop_of_length-le, replicate-append-replicate}
use lib.Seq.{take_all, length-take-le}
use borrow.Author.Tests.{leb-true, leb-false}
use Rattle.rules.specs.Limits.{trit_x}
use Rattle.lists.proofs.Choice.{and_true}
use Rattle.lists.proofs.All.{all_take, all_drop}
use Rattle.lists.specs.Lists.{all, pairs}
use Rattle.rules.specs.Value.{from_uint}
use Rattle.rules.specs.Record.{byte_of, pack_bits, bits_of, known_bit, value_bit, trit_by}

-- each is 0 or 1
abbrev pub are_bits : List ℕ → Bool
are_bits l = all (λ b. leb b 1) l

zeros_of : (k : ℕ) → from_uint k 0 ≡ replicate k 0
unfolding from_uint
zeros_of zero = refl
zeros_of (suc k) = ap (λ (l : List ℕ). 0 ∷ l) (zeros_of k)

-- the low k bits of the byte of at most k bits
pub byte_bits : (k : ℕ) (bs : List ℕ) → are_bits bs ≡ true → length bs ≤ k → from_uint k (byte_of bs) ≡ bs ++ replicate (k - length bs) 0
unfolding from_uint byte_of
byte_bits k [] e h = rw sub-zero (zeros_of k)
byte_bits zero (b ∷ bs) e h = absurd (omega arith)
byte_bits (suc k) (b ∷ bs) e h =
    let f = and_true (leb b 1) (are_bits bs) e in
    let b1 : b ≤ 1 = leb-true b 1 f.0 in
    let p : (b + 2 * byte_of bs) % 2 ≡ b = omega arith in
    let q : (b + 2 * byte_of bs) / 2 ≡ byte_of bs = omega arith in
    rw (p, q, suc-sub-suc) (ap (λ (l : List ℕ). b ∷ l) (byte_bits k bs f.1 (omega arith)))

pub length_pack : (n : ℕ) (bs : List ℕ) → length (pack_bits n bs) ≡ n
unfolding pack_bits
length_pack zero bs = refl
length_pack (suc n) bs = ap suc (length_pack n (drop 8 bs))

-- the bits of n bytes of packed bits
pub pack_bits_lem : (n : ℕ) (bs : List ℕ) → are_bits bs ≡ true → length bs ≤ 8 * n → bits_of (pack_bits n bs) ≡ bs ++ replicate (8 * n - length bs) 0
unfolding bits_of pack_bits
pack_bits_lem zero [] e h = refl
pack_bits_lem zero (b ∷ bs) e h = absurd (omega arith)
pack_bits_lem (suc n) bs e h =
    rw (byte_bits 8 (take 8 bs) (all_take (λ b. leb b 1) 8 bs e) (omega (arith, length-take 8 bs)), pack_bits_lem n (drop 8 bs) (all_drop (λ b. leb b 1) 8 bs e) (omega (arith, length-drop 8 bs)))
    (on (leb (length bs) 8) refl)
  where
    on : (t : Bool) → leb (length bs) 8 ≡ t
        → (take 8 bs ++ replicate (8 - length (take 8 bs)) 0) ++ (drop 8 bs ++ replicate (8 * n - length (drop 8 bs)) 0) ≡ bs ++ replicate (8 * suc n - length bs) 0
    on true q =
        let short : length bs ≤ 8 = leb-true (length bs) 8 q in
        let sums : 8 - length bs + (8 * n - 0) ≡ 8 * suc n - length bs = omega arith in
        rw (take_all 8 bs short, drop_of_length-le bs short, append_assoc, replicate-append-replicate, sums)
    on false q =
        let long : 8 < length bs = leb-false (length bs) 8 q in
        let whole : length (take 8 bs) ≡ 8 = length-take-le 8 bs (omega arith) in
        let sums : 8 * n - (length bs - 8) ≡ 8 * suc n - length bs = omega arith in
        rw (whole, append-nil, length-drop, sums, ← append_assoc, take-append-drop)

-- a trit is its two bits
pub trit_bits : (t : ℕ) → leb t trit_x ≡ true → trit_by (known_bit t) (value_bit t) ≡ t
unfolding trit_by known_bit value_bit
trit_bits zero e = refl
trit_bits (suc zero) e = refl
trit_bits (suc (suc zero)) e = refl
trit_bits (suc (suc (suc t))) e = absurd (omega (arith, leb-true (suc (suc (suc t))) trit_x e))

pub image_bits : (image : List ℕ) → all (λ t. leb t trit_x) image ≡ true
    → map (λ p. trit_by p.0 p.1) (pairs (map known_bit image) (map value_bit image)) ≡ image
image_bits [] e = refl
image_bits (t ∷ l) e =
    let f = and_true (leb t trit_x) (all (λ t. leb t trit_x) l) e in
    rw (trit_bits t f.0) (ap (λ (r : List ℕ). t ∷ r) (image_bits l f.1))
