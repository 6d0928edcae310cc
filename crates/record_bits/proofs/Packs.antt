-- Trits to bytes, one step of each loop.
use mathlib.Core.Path.{◌≡◌, refl, sym, ap, ◌∙◌}
use mathlib.Core.Bool.{Bool, true, false}
use Prim.Native.Nat.{ℕ, zero, suc, ◌+◌, ◌-◌, ◌*◌, ◌^◌, ◌<◌, ◌≤◌}
use native.Mathlib.Omega.{arith}
use native.Mathlib.Numerals.{add-one}
use native.Mathlib.Nat.{pow-succ'}
use mathlib.Core.List.{List, [], ◌∷◌, ◌++◌, map}
use lib.ListN.{length, take, drop, set}
use lib.Seq.{sets, drop-drop}
use lib.Pow.{pow_mono}
use lib.Dec.{eqb}
use Rattle.lists.specs.Choice.{when◌then◌else◌}
use Rattle.lists.proofs.Store.{sets_at, sets_set}
use Rattle.lists.proofs.Joined.{map_take, map_drop}
use Rattle.rules.specs.Limits.{trit_x}
use Rattle.rules.specs.Record.{byte_of, pack_bits, known_bit, value_bit}
use Rattle.rules.proofs.Bits.{length_pack}

-- ---- the bits of trits, the last first, before a byte
unfoldable pub byte_on : (ℕ → ℕ) → List ℕ → ℕ → ℕ
byte_on f [] k = k
byte_on f (t ∷ l) k = f t + 2 * byte_on f l k

module _ (f : ℕ → ℕ) where
  pub on_last : (l : List ℕ) (t k : ℕ) → byte_on f (l ++ (t ∷ [])) k ≡ byte_on f l (f t + 2 * k)
  unfolding byte_on
  on_last [] t k = refl
  on_last (x ∷ l) t k = ap (λ (n : ℕ). f x + 2 * n) (on_last l t k)

  pub on_none : (l : List ℕ) → byte_on f l 0 ≡ byte_of (map f l)
  unfolding byte_on byte_of
  on_none [] = refl
  on_none (x ∷ l) = ap (λ (n : ℕ). f x + 2 * n) (on_none l)

  pub on_most : (l : List ℕ) (k : ℕ) → k ≤ byte_on f l k
  unfolding byte_on
  on_most [] k = omega arith
  on_most (x ∷ l) k = omega (arith, on_most l k)

  pub on_end : (l : List ℕ) (k : ℕ) → length l ≡ 0 → k ≡ byte_on f l k
  unfolding byte_on
  on_end [] k h = refl
  on_end (x ∷ l) k h = absurd (omega arith)

-- the byte of at most n bits is below 2 ^ n
byte_lt : (f : ℕ → ℕ) → ((t : ℕ) → f t < 2) → (l : List ℕ) → byte_of (map f l) < 2 ^ length l
unfolding byte_of
byte_lt f z [] = omega arith
byte_lt f z (t ∷ l) = rw (pow-succ' 2 (length l)) (omega (arith, z t, byte_lt f z l))

pub byte_small : (f : ℕ → ℕ) → ((t : ℕ) → f t < 2) → (j : ℕ) (l : List ℕ) → length l ≤ j → byte_of (map f l) < 2 ^ j
byte_small f z j l h = omega (arith, byte_lt f z l, pow_mono {i = length l} {j = j} h)

bit : (t : Bool) → (when t then 1 else 0) < 2
bit true = omega arith
bit false = omega arith

not_bit : (t : Bool) → (when t then 0 else 1) < 2
not_bit true = omega arith
not_bit false = omega arith

pub known_lt : (t : ℕ) → known_bit t < 2
unfolding known_bit
known_lt t = not_bit (eqb t trit_x)

pub value_lt : (t : ℕ) → value_bit t < 2
unfolding value_bit
value_lt t = bit (eqb t 1)

-- ---- a byte more of both arrays
pack_step : (n : ℕ) (bs : List ℕ) → 0 < n → pack_bits n bs ≡ byte_of (take 8 bs) ∷ pack_bits (n - 1) (drop 8 bs)
unfolding pack_bits
pack_step zero bs h = absurd (omega arith)
pack_step (suc n) bs h =
    let q : suc n - 1 ≡ n = omega arith in
    simp q

both_turn : (l K W : List ℕ) (a b k v : ℕ) → a + 1 + length K ≤ b
    → sets (sets (set (set l a k) b v) (a + 1) K) (b + 1) W ≡ sets (sets l a (k ∷ K)) b (v ∷ W)
both_turn l K W a b k v h =
    rw (add-one a, add-one b)
    (ap (λ (m : List ℕ). sets m (suc b) W) (sets_set K (set l a k) (suc a) b v (omega arith)))

-- what is left to store from byte j on
abbrev pub stored : (l bs cs : List ℕ) (at n j : ℕ) → List ℕ
stored l bs cs at n j = sets (sets l (at + j) (pack_bits (n - j) (drop (8 * j) bs))) (at + n + j) (pack_bits (n - j) (drop (8 * j) cs))

pub stored_start : (l bs cs : List ℕ) (at n : ℕ) → stored l bs cs at n 0 ≡ sets l at (pack_bits n bs ++ pack_bits n cs)
stored_start l bs cs at n =
    let x : at + 0 ≡ at = omega arith in
    let y : at + n + 0 ≡ at + n = omega arith in
    let z : n - 0 ≡ n = omega arith in
    rw (x, y, z) (sets_at l at (at + n) (pack_bits n bs) (pack_bits n cs) (ap (λ (k : ℕ). at + k) (sym (length_pack n bs))))

pub stored_turn : (l bs cs : List ℕ) (at n j k v : ℕ) → j < n
    → k ≡ byte_of (take 8 (drop (8 * j) bs)) → v ≡ byte_of (take 8 (drop (8 * j) cs))
    → stored (set (set l (at + j) k) (at + n + j) v) bs cs at n (j + 1) ≡ stored l bs cs at n j
stored_turn l bs cs at n j k v h p q =
    let a : at + (j + 1) ≡ at + j + 1 = omega arith in
    let b : at + n + (j + 1) ≡ at + n + j + 1 = omega arith in
    let m : n - (j + 1) ≡ n - j - 1 = omega arith in
    let e : 8 * (j + 1) ≡ 8 * j + 8 = omega arith in
    rw (a, b, m, e, ← drop-drop 8 (8 * j) bs, ← drop-drop 8 (8 * j) cs, pack_step (n - j) (drop (8 * j) bs) (omega arith), pack_step (n - j) (drop (8 * j) cs) (omega arith), ← p, ← q)
    (both_turn l (pack_bits (n - j - 1) (drop 8 (drop (8 * j) bs))) (pack_bits (n - j - 1) (drop 8 (drop (8 * j) cs))) (at + j) (at + n + j) k v (omega (arith, length_pack (n - j - 1) (drop 8 (drop (8 * j) bs)))))

pub stored_end : (l bs cs : List ℕ) (at n j : ℕ) → n ≤ j → stored l bs cs at n j ≡ l
unfolding pack_bits
stored_end l bs cs at n j h = let z : n - j ≡ 0 = omega arith in rw z

-- the bits of eight trits, taken before or after
pub eight_bits : (f : ℕ → ℕ) (at : ℕ) (ts : List ℕ) → map f (take 8 (drop at ts)) ≡ take 8 (drop at (map f ts))
eight_bits f at ts = map_take f 8 (drop at ts) ∙ ap (take 8) (map_drop f at ts)
