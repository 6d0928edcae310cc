-- The trit of a number: the two bits that the code takes, and the trit of the image that the record is read to.
use Rattle.std.specs.Option.{unwrap_or}
use Rattle.std.specs.Prelude.{Option, Some, None, is_some}
use mathlib.Core.Path.{◌≡◌, refl, sym, ap, ◌∙◌}
use mathlib.Core.Bool.{Bool, true, false, not}
use Prim.Native.Nat.{ℕ, suc, ◌+◌, ◌-◌, ◌*◌, ◌/◌, ◌%◌, ◌<◌, ◌≤◌}
use native.Mathlib.Omega.{arith}
use mathlib.Core.List.{List}
use lib.Dec.{eqb, ltb}
use lib.ListN.{length, take, drop, get_or, length-drop, get_or-map, get_or-eq_default}
use lib.Seq.{get_or-take, get_or-drop, length-take-le}
use borrow.Author.Tests.{lt-ltb, le-ltb, ltb-true, ltb-false, eqb-true, not-false}
use Rattle.lists.specs.Choice.{when◌then◌else◌}
use Rattle.lists.specs.Lists.{pairs}
use Rattle.lists.proofs.Choice.{or_false, and_true}
use Rattle.lists.proofs.Pairs.{get_d_pairs}
use Rattle.rules.specs.Limits.{head_bytes, record_mark, trit_x}
use Rattle.rules.specs.Numbers.{ceil_div}
use Rattle.rules.specs.Value.{from_uint}
use Rattle.rules.specs.Record.{size_trits, word_at, array_bytes, trit_by, head_sizes, record_bytes, known_bits, value_bits, bit_pairs, decode_image, trit_at_of, next_word, next_trit}
use Rattle.rules.specs.Conditions.{bad_head}
use Rattle.rules.proofs.Written.{length_bits}
use Rattle.record_bits.proofs.Arrays.{bits_at}
use Rattle.record_reader.specs.Reading.{has_word, word_there, has_trit_at, trit_numbered, trit_there}

module _ (bytes : List ℕ) where
  abbrev T : ℕ
  T = size_trits (head_sizes bytes)

  abbrev n : ℕ
  n = array_bytes T

  few : (i : ℕ) → i < T → i / 8 < n
  unfolding array_bytes ceil_div
  few i h = omega arith

  module _ (i : ℕ) (h : i < T) (g : 12 + n + i / 8 < length bytes) where
    known_at : get_or (known_bits bytes) i 0 ≡ get_or (from_uint 8 (get_or bytes (12 + i / 8) 0)) (i % 8) 0
    unfolding known_bits
    known_at =
        let l : length (take n (drop 12 bytes)) ≡ n = length-take-le n (drop 12 bytes) (omega (arith, length-drop 12 bytes)) in
        let f = few i h in
        bits_at (take n (drop 12 bytes)) i (omega arith)
        ∙ ap (λ (b : ℕ). get_or (from_uint 8 b) (i % 8) 0) (get_or-take n (drop 12 bytes) (i / 8) 0 f ∙ get_or-drop 12 bytes (i / 8) 0)

    value_at : get_or (value_bits bytes) i 0 ≡ get_or (from_uint 8 (get_or bytes (12 + n + i / 8) 0)) (i % 8) 0
    unfolding value_bits
    value_at =
        bits_at (drop (12 + n) bytes) i (omega (arith, length-drop (12 + n) bytes))
        ∙ ap (λ (b : ℕ). get_or (from_uint 8 b) (i % 8) 0) (get_or-drop (12 + n) bytes (i / 8) 0)

    pub trit_at_lem : trit_at_of bytes i ≡ trit_by (get_or (from_uint 8 (get_or bytes (12 + i / 8) 0)) (i % 8) 0) (get_or (from_uint 8 (get_or bytes (12 + n + i / 8) 0)) (i % 8) 0)
    unfolding trit_at_of
    trit_at_lem = rw (known_at, value_at)

-- ---- what the code answers, with its own count of trits
module _ (bytes : List ℕ) (i count n : ℕ) (e : count ≡ size_trits (head_sizes bytes)) (b : n ≡ array_bytes count) where
  place : 12 + n + i / 8 ≡ 12 + array_bytes (size_trits (head_sizes bytes)) + i / 8
  place = ap (λ (x : ℕ). 12 + x + i / 8) (b ∙ ap array_bytes e)

  pub past_trits : count ≤ i → None ≡ trit_numbered bytes i
  unfolding trit_numbered
  past_trits h = rw (le-ltb i (size_trits (head_sizes bytes)) (omega arith))

  pub past_bytes : length bytes ≤ 12 + n + i / 8 → i < count → None ≡ trit_numbered bytes i
  unfolding trit_numbered
  past_bytes h g =
      rw (lt-ltb i (size_trits (head_sizes bytes)) (omega arith), le-ltb (12 + array_bytes (size_trits (head_sizes bytes)) + i / 8) (length bytes) (omega (arith, place)))

  module _ (g : i < count) (h : 12 + n + i / 8 < length bytes) where
    pub there : trit_numbered bytes i ≡ Some (trit_at_of bytes i)
    unfolding trit_numbered
    there = rw (lt-ltb i (size_trits (head_sizes bytes)) (omega arith), lt-ltb (12 + array_bytes (size_trits (head_sizes bytes)) + i / 8) (length bytes) (omega (arith, place)))

    pub taken : (k v t : ℕ) → k ≡ get_or (from_uint 8 (get_or bytes (12 + i / 8) 0)) (i % 8) 0 → v ≡ get_or (from_uint 8 (get_or bytes (12 + n + i / 8) 0)) (i % 8) 0
        → t ≡ trit_by k v → Some t ≡ trit_numbered bytes i
    taken k v t p q r =
        let u : v ≡ get_or (from_uint 8 (get_or bytes (12 + array_bytes (size_trits (head_sizes bytes)) + i / 8) 0)) (i % 8) 0 = q ∙ ap (λ (x : ℕ). get_or (from_uint 8 (get_or bytes x 0)) (i % 8) 0) place in
        sym (there ∙ ap Some (trit_at_lem bytes i (omega arith) (omega (arith, place)) ∙ sym (r ∙ ap (λ (x : ℕ). trit_by x v) p ∙ ap (trit_by (get_or (from_uint 8 (get_or bytes (12 + i / 8) 0)) (i % 8) 0)) u)))

-- ---- the trits of an accepted head's record, taken one by one, are its image
module _ (bytes : List ℕ) (e : bad_head bytes (length bytes) ≡ false) where
  whole : length bytes ≡ 12 + 2 * array_bytes (size_trits (head_sizes bytes))
  unfolding bad_head record_bytes
  whole = eqb-true _ _ (not-false _ (or_false (not (eqb (word_at bytes 0) record_mark)) _ (or_false (ltb (length bytes) head_bytes) _ e).1).1)

  same_length : length (known_bits bytes) ≡ length (value_bits bytes)
  unfolding known_bits value_bits
  same_length =
      let n = array_bytes (size_trits (head_sizes bytes)) in
      length_bits (take n (drop 12 bytes))
      ∙ ap (λ (k : ℕ). 8 * k) (length-take-le n (drop 12 bytes) (omega (arith, length-drop 12 bytes, whole)) ∙ sym (length-drop (12 + n) bytes ∙ omega (arith, whole)))
      ∙ sym (length_bits (drop (12 + n) bytes))

  decoded_at : (i : ℕ) → i < size_trits (head_sizes bytes) → get_or (decode_image bytes) i trit_x ≡ trit_at_of bytes i
  unfolding decode_image bit_pairs trit_at_of trit_by
  decoded_at i h =
      let ps = pairs (known_bits bytes) (value_bits bytes) in
      let f : ℕ × ℕ → ℕ = λ p. trit_by p.0 p.1 in
      get_or-map f (take (size_trits (head_sizes bytes)) ps) i (0, 0)
      ∙ ap f (get_or-take (size_trits (head_sizes bytes)) ps i (0, 0) h ∙ get_d_pairs (known_bits bytes) (value_bits bytes) i 0 same_length)

  near : (i : ℕ) → i < size_trits (head_sizes bytes) → 12 + array_bytes (size_trits (head_sizes bytes)) + i / 8 < length bytes
  unfolding array_bytes ceil_div
  near i h = omega (arith, whole)

  pub read_at : (i : ℕ) → i < size_trits (head_sizes bytes) → trit_numbered bytes i ≡ Some (get_or (decode_image bytes) i trit_x)
  read_at i h = there bytes i (size_trits (head_sizes bytes)) _ refl refl h (near i h) ∙ ap Some (sym (decoded_at i h))

-- ---- the place after a trit, by what was found
code_not_end : (t : ℕ) → Some t ≡ None → ⊥
code_not_end t e = let z : ◌≡◌ {A = ℕ} 0 1 = cc in omega arith

if_false : (b x : Bool) → (when b then false else x) ≡ true → x ≡ true
if_false true x e = let z : ◌≡◌ {A = ℕ} 0 1 = cc in absurd (omega arith)
if_false false x e = e

has_code : (b : Bool) (t u : ℕ) → (when b then Some t else None) ≡ Some u → b ≡ true
has_code true t u e = refl
has_code false t u e = absurd (code_not_end u (sym e))

if_some : (b : Bool) (t : ℕ) → is_some (when b then Some t else None) ≡ b
if_some true t = refl
if_some false t = refl

-- ---- by the reader's place
module _ (bytes : List ℕ) (at : ℕ) where
  pub before-trits : at < 12 → None ≡ trit_there bytes at
  unfolding trit_there
  before-trits h = rw (lt-ltb at 12 h)

  pub behind_head : 12 ≤ at → trit_numbered bytes (at - 12) ≡ trit_there bytes at
  unfolding trit_there trit_numbered next_trit
  behind_head h = rw (le-ltb at 12 h)

  has : (t : ℕ) → trit_there bytes at ≡ Some t → has_trit_at bytes at ≡ true
  unfolding trit_there
  has t e = has_code (has_trit_at bytes at) _ t e

  pub found_is : is_some (trit_there bytes at) ≡ has_trit_at bytes at
  unfolding trit_there
  found_is = if_some (has_trit_at bytes at) _

-- ---- the word at a place, by what was found
found_not_end : (t : ℕ) → Some t ≡ None → ⊥
found_not_end t e = let z : ◌≡◌ {A = ℕ} 0 1 = cc in omega arith

is_found : (b : Bool) (w u : ℕ) → (when b then Some w else None) ≡ Some u → u ≡ w
is_found true w u e = cc
is_found false w u e = absurd (found_not_end u (sym e))

is_none : (b : Bool) (w : ℕ) → (when b then Some w else None) ≡ None → b ≡ false
is_none true w e = absurd (found_not_end w e)
is_none false w e = refl

module _ (bytes : List ℕ) (i : ℕ) where
  word_found : (w : ℕ) → word_there bytes i ≡ Some w → w ≡ word_at bytes i
  unfolding word_there next_word
  word_found w e = is_found (has_word bytes i) (word_at bytes i) w e

  -- the second byte is not there
  word_none : (b : ℕ) → word_there bytes i ≡ None → b ≡ get_or bytes i 0 → b ≡ word_at bytes i
  unfolding word_there word_at
  word_none b e q =
      let n : length bytes ≤ suc i = omega (arith, ltb-false (i + 1) (length bytes) (is_none (has_word bytes i) _ e)) in
      omega (arith, get_or-eq_default bytes 0 n)

  -- the word, or the byte where the second is not there
  pub word_or : (o : Option ℕ) (b : ℕ) → o ≡ word_there bytes i → b ≡ get_or bytes i 0 → unwrap_or o b ≡ word_at bytes i
  word_or (Some w) b e q = word_found w (sym e)
  word_or None b e q = word_none b (sym e) q
