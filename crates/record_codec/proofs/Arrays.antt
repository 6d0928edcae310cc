-- Number 18: a turn of the loop over the two arrays, and the arrays of a record whose head is good.
use mathlib.Core.Path.{◌≡◌, refl, sym, ap, ◌∙◌}
use mathlib.Core.Bool.{Bool, false, not, ◌||◌}
use Prim.Native.Nat.{ℕ, ◌+◌, ◌-◌, ◌*◌, ◌≤◌}
use native.Mathlib.Omega.{arith}
use mathlib.Core.List.{List, [], ◌∷◌}
use lib.Dec.{eqb, ltb}
use lib.ListN.{length, take, drop, length-drop}
use lib.Seq.{length-take-le, take_all, take-nil, drop-nil}
use borrow.Author.Tests.{eqb-true, not-false}
use Rattle.lists.proofs.Choice.{or_false}
use Rattle.rules.specs.Limits.{head_bytes, record_mark}
use Rattle.rules.specs.Record.{size_trits, word_at, bits_of, array_bytes, head_sizes, record_bytes, known_bits, value_bits, bit_pairs}
use Rattle.rules.specs.Conditions.{bad_head, bad_bits, spare_bits}
use Rattle.record_bits.specs.Groups.{bad_by, bad_group}
use Rattle.record_bits.proofs.Arrays.{bad_byte}

-- the errors in what is left of two arrays, from byte j on
abbrev pub left : (count j : ℕ) (ks vs : List ℕ) → Bool
left count j ks vs = bad_by (count - 8 * j) (bits_of ks) (bits_of vs)

pub left_start : (count j : ℕ) (ks vs ks' vs' : List ℕ) → j ≡ 0 → ks' ≡ ks → vs' ≡ vs → left count j ks' vs' ≡ bad_by count (bits_of ks) (bits_of vs)
left_start count j ks vs ks' vs' e p q = let z : count - 0 ≡ count = omega arith in rw (e, p, q, z)

pub left_turn : (count j n k v : ℕ) (ks vs ks' vs' : List ℕ) → n ≡ count - 8 * j → ks ≡ k ∷ ks' → vs ≡ v ∷ vs' → left count j ks vs ≡ (bad_group n k v || left count (j + 1) ks' vs')
left_turn count j n k v ks vs ks' vs' b p q =
    let u : count - 8 * (j + 1) ≡ count - 8 * j - 8 = omega arith in
    rw (b, p, q, u) (bad_byte (count - 8 * j) k v ks' vs')

pub left_none : (count j : ℕ) (ks vs : List ℕ) → length ks ≡ 0 → length vs ≡ 0 → left count j ks vs ≡ false
unfolding bits_of
left_none count j [] [] h g = rw (take-nil {A = ℕ × ℕ} (count - 8 * j), drop-nil {A = ℕ} (count - 8 * j))
left_none count j [] (v ∷ vs) h g = absurd (omega arith)
left_none count j (k ∷ ks) vs h g = absurd (omega arith)

-- ---- the two arrays of a record
module _ (bytes : List ℕ) where
  abbrev count : ℕ
  count = size_trits (head_sizes bytes)

  pub bad_arrays : bad_bits bytes ≡ bad_by count (bits_of (take (array_bytes count) (drop 12 bytes))) (bits_of (drop (12 + array_bytes count) bytes))
  unfolding bad_bits bit_pairs spare_bits known_bits value_bits
  bad_arrays = refl

  module _ (e : bad_head bytes (length bytes) ≡ false) where
    pub whole : length bytes ≡ 12 + 2 * array_bytes count
    unfolding bad_head record_bytes
    whole = eqb-true _ _ (not-false _ (or_false (not (eqb (word_at bytes 0) record_mark)) _ (or_false (ltb (length bytes) head_bytes) _ e).1).1)

    pub arrays_alike : (x y : List ℕ) → x ≡ take (array_bytes count) (drop 12 bytes) → y ≡ drop (12 + array_bytes count) bytes → length x ≡ length y
    arrays_alike x y p q =
        ap length p ∙ length-take-le (array_bytes count) (drop 12 bytes) (omega (arith, length-drop 12 bytes, whole))
        ∙ sym (ap length q ∙ length-drop (12 + array_bytes count) bytes ∙ omega (arith, whole))

    -- the parts that the code cuts, with its own count of an array's bytes
    module _ (n : ℕ) (middle : n ≡ array_bytes count) where
      pub cut_in : 12 + n ≤ length bytes
      cut_in = omega (arith, middle, whole)

      pub cut_known : take (12 + n - 12) (drop 12 bytes) ≡ take (array_bytes count) (drop 12 bytes)
      cut_known = let z : 12 + n - 12 ≡ array_bytes count = omega (arith, middle) in ap (λ (m : ℕ). take m (drop 12 bytes)) z

      pub cut_value : take (length bytes - (12 + n)) (drop (12 + n) bytes) ≡ drop (12 + array_bytes count) bytes
      cut_value = take_all (length bytes - (12 + n)) (drop (12 + n) bytes) (omega (arith, length-drop (12 + n) bytes)) ∙ ap (λ (m : ℕ). drop (12 + m) bytes) middle

  -- the arrays that the code takes
  pub arrays_cong : {A : Type 0} (f : ℕ → List ℕ → List ℕ → A) (n : ℕ) (x y : List ℕ) → n ≡ count → x ≡ take (array_bytes count) (drop 12 bytes) → y ≡ drop (12 + array_bytes count) bytes
      → f n (bits_of x) (bits_of y) ≡ f count (bits_of (take (array_bytes count) (drop 12 bytes))) (bits_of (drop (12 + array_bytes count) bytes))
  arrays_cong f n x y e p q = rw (e, p, q)
