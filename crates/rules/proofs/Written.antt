-- The second round trip of records: what is read is written again.
use Prim.Native.Nat.{ℕ, zero, suc, ◌+◌, ◌*◌, ◌/◌, ◌%◌, ◌≤◌, ◌<◌}
use mathlib.Core.Path.{◌≡◌, refl, sym, ap, ◌∙◌}
use mathlib.Core.Bool.{Bool, true, false, not}
use mathlib.Core.List.{List, [], ◌∷◌, ◌++◌, map}
use native.Mathlib.Omega.{arith}
use lib.Dec.{eqb, ltb, leb}
use lib.ListN.{length, get_or, take, drop, replicate, length-append, length-map, length-drop, take-append-drop}
use lib.Seq.{take_at, drop_at, drop-drop, drop-cons, length-take-le}
use borrow.Author.Tests.{leb-true, lt-ltb, ltb-true, ltb-false, eqb-true, ne_eqb, le-leb, not-false}
use Rattle.rules.specs.Limits.{head_bytes, record_mark, trit_x}
use Rattle.lists.specs.Lists.{all, any, pairs}
use Rattle.rules.specs.Numbers.{ceil_div}
use Rattle.rules.specs.Logic.{are_trits}
use Rattle.rules.specs.Value.{from_uint}
use Rattle.rules.specs.Record.{size_trits, word16, word_at, byte_of, pack_bits, bits_of, array_bytes, known_bit, value_bit, trit_by, record_head, encode_record, head_sizes, record_bytes, known_bits, value_bits, bit_pairs, decode_image}
use Rattle.rules.specs.Conditions.{bad_head, bad_bits, spare_bits}
use Rattle.rules.specs.Refusals.{header_refusal, record_number, WritesBack}
use Rattle.lists.proofs.Choice.{and_true, if_zero, or_false, else_zero}
use Rattle.lists.proofs.All.{all_take, all_drop}
use Rattle.rules.proofs.Bits.{are_bits}

-- each is a byte
abbrev pub are_bytes : List ℕ → Bool
are_bytes l = all (λ b. ltb b 256) l

-- ---- one byte
pub length_uint : (k x : ℕ) → length (from_uint k x) ≡ k
unfolding from_uint
length_uint zero x = refl
length_uint (suc k) x = ap suc (length_uint k (x / 2))

uint_bits : (k x : ℕ) → are_bits (from_uint k x) ≡ true
unfolding from_uint
uint_bits zero x = refl
uint_bits (suc k) x = rw (low (x % 2) (omega arith)) (uint_bits k (x / 2))
  where
    low : (b : ℕ) → b < 2 → leb b 1 ≡ true
    low zero h = refl
    low (suc zero) h = refl
    low (suc (suc b)) h = absurd (omega arith)

byte_of_lem : (a : ℕ) → a < 256 → byte_of (from_uint 8 a) ≡ a
unfolding byte_of from_uint
byte_of_lem a h = omega arith

-- ---- bytes
pack_of_lem : (l : List ℕ) → are_bytes l ≡ true → pack_bits (length l) (bits_of l) ≡ l
unfolding pack_bits bits_of
pack_of_lem [] e = refl
pack_of_lem (a ∷ l) e =
    let f = and_true (ltb a 256) (are_bytes l) e in
    rw (take_at (from_uint 8 a) (bits_of l) 8 (length_uint 8 a), drop_at (from_uint 8 a) (bits_of l) 8 (length_uint 8 a), byte_of_lem a (ltb-true a 256 f.0))
    (ap (λ (r : List ℕ). a ∷ r) (pack_of_lem l f.1))

-- zeros after the bits change no byte
byte_zeros : (k z : ℕ) → byte_of (take k (replicate z 0)) ≡ 0
unfolding byte_of
byte_zeros zero z = refl
byte_zeros (suc k) zero = refl
byte_zeros (suc k) (suc z) = omega (arith, byte_zeros k z)

byte_more : (k : ℕ) (bs : List ℕ) (z : ℕ) → byte_of (take k (bs ++ replicate z 0)) ≡ byte_of (take k bs)
unfolding byte_of
byte_more zero bs z = refl
byte_more (suc k) [] z = byte_zeros (suc k) z
byte_more (suc k) (b ∷ bs) z = rw (byte_more k bs z)

drop_zeros : (k z : ℕ) → (y : ℕ) × (drop {A = ℕ} k (replicate z 0) ≡ replicate y 0)
drop_zeros zero z = (z, refl)
drop_zeros (suc k) zero = (0, refl)
drop_zeros (suc k) (suc z) = drop_zeros k z

drop_more : (k : ℕ) (bs : List ℕ) (z : ℕ) → (y : ℕ) × (drop k (bs ++ replicate z 0) ≡ drop k bs ++ replicate y 0)
drop_more zero bs z = (z, refl)
drop_more (suc k) [] z = drop_zeros (suc k) z
drop_more (suc k) (b ∷ bs) z = drop_more k bs z

pack_more : (n : ℕ) (bs : List ℕ) (z : ℕ) → pack_bits n (bs ++ replicate z 0) ≡ pack_bits n bs
unfolding pack_bits
pack_more zero bs z = refl
pack_more (suc n) bs z =
    let d = drop_more 8 bs z in
    rw (byte_more 8 bs z, d.1) (ap (λ (r : List ℕ). byte_of (take 8 bs) ∷ r) (pack_more n (drop 8 bs) d.0))

-- bits with no one among them are zeros
no_one : (l : List ℕ) → are_bits l ≡ true → any (eqb 1) l ≡ false → l ≡ replicate (length l) 0
no_one [] e f = refl
no_one (zero ∷ l) e f = ap (λ (r : List ℕ). 0 ∷ r) (no_one l e f)
no_one (suc zero ∷ l) e f = let z : ◌≡◌ {A = ℕ} 0 1 = cc in absurd (omega arith)
no_one (suc (suc b) ∷ l) e f = absurd (omega (arith, leb-true (suc (suc b)) 1 (and_true (leb (suc (suc b)) 1) (are_bits l) e).0))

-- ---- the two bits of a trit, as read, are those that are written
pub known_of : (k v : ℕ) → k ≤ 1 → v ≤ k → known_bit (trit_by k v) ≡ k
unfolding known_bit trit_by
known_of zero v h g = refl
known_of (suc zero) zero h g = refl
known_of (suc zero) (suc zero) h g = refl
known_of (suc zero) (suc (suc v)) h g = absurd (omega arith)
known_of (suc (suc k)) v h g = absurd (omega arith)

pub value_of : (k v : ℕ) → k ≤ 1 → v ≤ k → value_bit (trit_by k v) ≡ v
unfolding value_bit trit_by
value_of zero zero h g = refl
value_of zero (suc v) h g = absurd (omega arith)
value_of (suc zero) zero h g = refl
value_of (suc zero) (suc zero) h g = refl
value_of (suc zero) (suc (suc v)) h g = absurd (omega arith)
value_of (suc (suc k)) v h g = absurd (omega arith)

-- n pairs of bits, no value without its known bit
knowns : (n : ℕ) (a b : List ℕ) → are_bits a ≡ true → length a ≡ length b → any (λ p. ltb p.0 p.1) (take n (pairs a b)) ≡ false
    → map known_bit (map (λ p. trit_by p.0 p.1) (take n (pairs a b))) ≡ take n a
knowns zero a b e l f = refl
knowns (suc n) [] b e l f = refl
knowns (suc n) (k ∷ a) [] e l f = absurd (omega arith)
knowns (suc n) (k ∷ a) (v ∷ b) e l f =
    let c = and_true (leb k 1) (are_bits a) e in
    let d = or_false (ltb k v) (any (λ p. ltb p.0 p.1) (take n (pairs a b))) f in
    rw (known_of k v (leb-true k 1 c.0) (ltb-false k v d.0)) (ap (λ (r : List ℕ). k ∷ r) (knowns n a b c.1 (omega arith) d.1))

values : (n : ℕ) (a b : List ℕ) → are_bits a ≡ true → length a ≡ length b → any (λ p. ltb p.0 p.1) (take n (pairs a b)) ≡ false
    → map value_bit (map (λ p. trit_by p.0 p.1) (take n (pairs a b))) ≡ take n b
values zero a b e l f = refl
values (suc n) [] [] e l f = refl
values (suc n) [] (v ∷ b) e l f = absurd (omega arith)
values (suc n) (k ∷ a) [] e l f = absurd (omega arith)
values (suc n) (k ∷ a) (v ∷ b) e l f =
    let c = and_true (leb k 1) (are_bits a) e in
    let d = or_false (ltb k v) (any (λ p. ltb p.0 p.1) (take n (pairs a b))) f in
    rw (value_of k v (leb-true k 1 c.0) (ltb-false k v d.0)) (ap (λ (r : List ℕ). v ∷ r) (values n a b c.1 (omega arith) d.1))

all_append : (f : ℕ → Bool) (a b : List ℕ) → all f a ≡ true → all f b ≡ true → all f (a ++ b) ≡ true
all_append f [] b e g = g
all_append f (x ∷ a) b e g = let c = and_true (f x) (all f a) e in rw c.0 (all_append f a b c.1 g)

any_append : (f : ℕ → Bool) (a b : List ℕ) → any f (a ++ b) ≡ false → (any f a ≡ false) × (any f b ≡ false)
any_append f [] b e = (refl, e)
any_append f (x ∷ a) b e =
    let c = or_false (f x) (any f (a ++ b)) e in
    let d = any_append f a b c.1 in
    (rw c.0 d.0, d.1)

pub bits_of_lem : (l : List ℕ) → are_bits (bits_of l) ≡ true
unfolding bits_of
bits_of_lem [] = refl
bits_of_lem (a ∷ l) = all_append (λ b. leb b 1) (from_uint 8 a) (bits_of l) (uint_bits 8 a) (bits_of_lem l)

pub length_bits : (l : List ℕ) → length (bits_of l) ≡ 8 * length l
unfolding bits_of
length_bits [] = refl
length_bits (a ∷ l) = simp length-append (omega (arith, length_uint 8 a, length_bits l))

-- an array whose bits from t on are no ones is packed again from its first t bits
array_back : (t : ℕ) (l : List ℕ) → are_bytes l ≡ true → any (eqb 1) (drop t (bits_of l)) ≡ false → pack_bits (length l) (take t (bits_of l)) ≡ l
array_back t l e f =
    let z = no_one (drop t (bits_of l)) (all_drop (λ b. leb b 1) t (bits_of l) (bits_of_lem l)) f in
    sym (pack_more (length l) (take t (bits_of l)) (length (drop t (bits_of l))))
    ∙ ap (λ (r : List ℕ). pack_bits (length l) (take t (bits_of l) ++ r)) (sym z)
    ∙ ap (pack_bits (length l)) (take-append-drop t (bits_of l))
    ∙ pack_of_lem l e

-- the trits of bits are trits' codes
code_of : (k v : ℕ) → leb v 1 ≡ true → leb (trit_by k v) trit_x ≡ true
unfolding trit_by
code_of zero v e = refl
code_of (suc k) v e = rw (ne_eqb (suc k) 0 (λ z. absurd (omega arith))) (le-leb v trit_x (omega (arith, leb-true v 1 e)))

codes : (n : ℕ) (a b : List ℕ) → are_bits b ≡ true → all (λ t. leb t trit_x) (map (λ p. trit_by p.0 p.1) (take n (pairs a b))) ≡ true
codes zero a b e = refl
codes (suc n) [] b e = refl
codes (suc n) (k ∷ a) [] e = refl
codes (suc n) (k ∷ a) (v ∷ b) e =
    let c = and_true (leb v 1) (are_bits b) e in
    rw (code_of k v c.0) (codes n a b c.1)

-- a word's two bytes
word_back : (a b : ℕ) → a < 256 → word16 (a + 256 * b) ≡ a ∷ b ∷ []
unfolding word16
word_back a b h =
    let p : (a + 256 * b) % 256 ≡ a = omega arith in
    let q : (a + 256 * b) / 256 ≡ b = omega arith in
    rw (p, q)

-- a list of at least twelve, its first twelve named
twelve : (l : List ℕ) → 12 ≤ length l
    → l ≡ get_or l 0 0 ∷ get_or l 1 0 ∷ get_or l 2 0 ∷ get_or l 3 0 ∷ get_or l 4 0 ∷ get_or l 5 0 ∷ get_or l 6 0 ∷ get_or l 7 0 ∷ get_or l 8 0 ∷ get_or l 9 0 ∷ get_or l 10 0 ∷ get_or l 11 0 ∷ drop 12 l
twelve l h = drop-cons l 0 0 (omega arith) ∙ ap (λ (r : List ℕ). get_or l 0 0 ∷ r) (drop-cons l 1 0 (omega arith) ∙ ap (λ (r : List ℕ). get_or l 1 0 ∷ r) (drop-cons l 2 0 (omega arith) ∙ ap (λ (r : List ℕ). get_or l 2 0 ∷ r) (drop-cons l 3 0 (omega arith) ∙ ap (λ (r : List ℕ). get_or l 3 0 ∷ r) (drop-cons l 4 0 (omega arith) ∙ ap (λ (r : List ℕ). get_or l 4 0 ∷ r) (drop-cons l 5 0 (omega arith) ∙ ap (λ (r : List ℕ). get_or l 5 0 ∷ r) (drop-cons l 6 0 (omega arith) ∙ ap (λ (r : List ℕ). get_or l 6 0 ∷ r) (drop-cons l 7 0 (omega arith) ∙ ap (λ (r : List ℕ). get_or l 7 0 ∷ r) (drop-cons l 8 0 (omega arith) ∙ ap (λ (r : List ℕ). get_or l 8 0 ∷ r) (drop-cons l 9 0 (omega arith) ∙ ap (λ (r : List ℕ). get_or l 9 0 ∷ r) (drop-cons l 10 0 (omega arith) ∙ ap (λ (r : List ℕ). get_or l 10 0 ∷ r) (drop-cons l 11 0 (omega arith))))))))))))

-- bytes one by one
pub all_bytes : (l : List ℕ) → ((i : ℕ) → get_or l i 0 < 256) → are_bytes l ≡ true
all_bytes [] h = refl
all_bytes (a ∷ l) h = rw (lt-ltb a 256 (h 0)) (all_bytes l (λ i. h (suc i)))

pub byte_at : (l : List ℕ) → are_bytes l ≡ true → (i : ℕ) → get_or l i 0 < 256
byte_at [] e i = omega arith
byte_at (a ∷ l) e zero = ltb-true a 256 (and_true (ltb a 256) (are_bytes l) e).0
byte_at (a ∷ l) e (suc i) = byte_at l (and_true (ltb a 256) (are_bytes l) e).1 i

module _ (bytes : List ℕ) (good : are_bytes bytes ≡ true) (e : record_number bytes ≡ 0) where
  record Read : Type 0 where
    head : bad_head bytes (length bytes) ≡ false
    bits : bad_bits bytes ≡ false

  read : Read
  unfolding record_number header_refusal
  read =
      let h = else_zero (header_refusal bytes (length bytes)) _ e in
      let a = if_zero (bad_head bytes (length bytes)) 15 _ h.0 in
      let c = if_zero (bad_bits bytes) 17 0 h.1 in
      record { head = a.0; bits = c.0 }

  n : ℕ
  n = array_bytes (size_trits (head_sizes bytes))

  T : ℕ
  T = size_trits (head_sizes bytes)

  long : 12 ≤ length bytes
  unfolding bad_head
  long = ltb-false (length bytes) head_bytes (or_false (ltb (length bytes) head_bytes) _ read.head).0

  mark : word_at bytes 0 ≡ record_mark
  unfolding bad_head
  mark = eqb-true _ _ (not-false _ (or_false (not (eqb (word_at bytes 0) record_mark)) _ (or_false (ltb (length bytes) head_bytes) _ read.head).1).0)

  size : length bytes ≡ 12 + 2 * n
  unfolding bad_head record_bytes n
  size = eqb-true _ _ (not-false _ (or_false (not (eqb (word_at bytes 0) record_mark)) _ (or_false (ltb (length bytes) head_bytes) _ read.head).1).1)

  -- the two arrays' bytes
  A : List ℕ
  A = take n (drop 12 bytes)

  B : List ℕ
  B = drop (12 + n) bytes

  length_A : length A ≡ n
  unfolding A
  length_A = length-take-le n (drop 12 bytes) (omega (arith, length-drop 12 bytes, size))

  length_B : length B ≡ n
  unfolding B
  length_B = length-drop (12 + n) bytes ∙ omega (arith, size)

  known_A : known_bits bytes ≡ bits_of A
  unfolding known_bits A n
  known_A = refl

  value_B : value_bits bytes ≡ bits_of B
  unfolding value_bits B n
  value_B = refl

  spare : (any (eqb 1) (drop T (bits_of A)) ≡ false) × (any (eqb 1) (drop T (bits_of B)) ≡ false)
  unfolding bad_bits spare_bits T known_bits value_bits A B n
  spare = any_append (eqb 1) (drop T (bits_of A)) (drop T (bits_of B)) (or_false (any (λ p. ltb p.0 p.1) (bit_pairs bytes)) _ read.bits).1

  known_good : any (λ p. ltb p.0 p.1) (take T (pairs (bits_of A) (bits_of B))) ≡ false
  unfolding bad_bits bit_pairs T known_bits value_bits A B n
  known_good = (or_false (any (λ p. ltb p.0 p.1) (bit_pairs bytes)) _ read.bits).0

  same_length : length (bits_of A) ≡ length (bits_of B)
  same_length = length_bits A ∙ ap (λ (k : ℕ). 8 * k) (length_A ∙ sym length_B) ∙ sym (length_bits B)

  decoded : decode_image bytes ≡ map (λ p. trit_by p.0 p.1) (take T (pairs (bits_of A) (bits_of B)))
  unfolding decode_image bit_pairs T known_bits value_bits A B n
  decoded = refl

  bytes_A : are_bytes A ≡ true
  unfolding A
  bytes_A = all_take (λ b. ltb b 256) n (drop 12 bytes) (all_drop (λ b. ltb b 256) 12 bytes good)

  bytes_B : are_bytes B ≡ true
  unfolding B
  bytes_B = all_drop (λ b. ltb b 256) (12 + n) bytes good

  -- as many trits as the sizes say
  trits_in_lem : T ≤ length (bits_of A)
  unfolding T n array_bytes ceil_div
  trits_in_lem = omega (arith, length_bits A, length_A)

  length_pairs : (a b : List ℕ) → length a ≡ length b → length (pairs a b) ≡ length a
  length_pairs [] b h = refl
  length_pairs (x ∷ a) [] h = absurd (omega arith)
  length_pairs (x ∷ a) (y ∷ b) h = ap suc (length_pairs a b (omega arith))

  length_image : length (decode_image bytes) ≡ T
  length_image = rw (decoded, length-map) (length-take-le T (pairs (bits_of A) (bits_of B)) (rw (length_pairs (bits_of A) (bits_of B) same_length) trits_in_lem))

  bytes_are : array_bytes T ≡ n
  unfolding T n
  bytes_are = refl

  A_back : pack_bits (array_bytes T) (take T (bits_of A)) ≡ A
  A_back = ap (λ (k : ℕ). pack_bits k (take T (bits_of A))) (bytes_are ∙ sym length_A) ∙ array_back T A bytes_A spare.0

  B_back : pack_bits (array_bytes T) (take T (bits_of B)) ≡ B
  B_back = ap (λ (k : ℕ). pack_bits k (take T (bits_of B))) (bytes_are ∙ sym length_B) ∙ array_back T B bytes_B spare.1

  arrays : pack_bits (array_bytes (length (decode_image bytes))) (map known_bit (decode_image bytes)) ++ pack_bits (array_bytes (length (decode_image bytes))) (map value_bit (decode_image bytes)) ≡ A ++ B
  arrays =
      rw (length_image, decoded, knowns T (bits_of A) (bits_of B) (bits_of_lem A) same_length known_good, values T (bits_of A) (bits_of B) (bits_of_lem A) same_length known_good, A_back, B_back)

  rest : A ++ B ≡ drop 12 bytes
  unfolding A B
  rest = ap (λ (r : List ℕ). take n (drop 12 bytes) ++ r) (sym (drop-drop n 12 bytes)) ∙ take-append-drop n (drop 12 bytes)

  first_word : (get_or bytes 0 0 ≡ 5) × (get_or bytes 1 0 ≡ 0)
  first_word =
      let b = byte_at bytes good 0 in
      let m : get_or bytes 0 0 + 256 * get_or bytes 1 0 ≡ 5 = unfold word_at in mark in
      (omega arith, omega arith)

  word_at_lem : (i : ℕ) → word16 (word_at bytes i) ≡ get_or bytes i 0 ∷ get_or bytes (suc i) 0 ∷ []
  unfolding word_at
  word_at_lem i = word_back (get_or bytes i 0) (get_or bytes (suc i) 0) (byte_at bytes good i)

  mark_word : word16 record_mark ≡ get_or bytes 0 0 ∷ get_or bytes 1 0 ∷ []
  unfolding word16
  mark_word = rw (first_word.0, first_word.1)

  head_is : record_head (head_sizes bytes)
      ≡ get_or bytes 0 0 ∷ get_or bytes 1 0 ∷ get_or bytes 2 0 ∷ get_or bytes 3 0 ∷ get_or bytes 4 0 ∷ get_or bytes 5 0 ∷ get_or bytes 6 0 ∷ get_or bytes 7 0 ∷ get_or bytes 8 0 ∷ get_or bytes 9 0 ∷ get_or bytes 10 0 ∷ get_or bytes 11 0 ∷ []
  unfolding record_head head_sizes
  head_is = rw (mark_word, word_at_lem 2, word_at_lem 4, word_at_lem 6, word_at_lem 8, word_at_lem 10)

  pub writes_back : WritesBack bytes
  unfolding WritesBack encode_record
  writes_back = rw (head_is, arrays, rest) (sym (twelve bytes long))

  -- the image has as many trits as the sizes say, each of them a trit's code
  pub decoded_length : length (decode_image bytes) ≡ size_trits (head_sizes bytes)
  unfolding T
  decoded_length = length_image

  pub decoded_trits : are_trits (decode_image bytes) ≡ true
  unfolding are_trits
  decoded_trits = rw decoded (codes T (bits_of A) (bits_of B) (bits_of_lem B))

  -- the bits of the image's trits are those of the record
  pub decoded_known : map known_bit (decode_image bytes) ≡ take (size_trits (head_sizes bytes)) (known_bits bytes)
  unfolding T
  decoded_known = rw (decoded, known_A) (knowns T (bits_of A) (bits_of B) (bits_of_lem A) same_length known_good)

  pub decoded_value : map value_bit (decode_image bytes) ≡ take (size_trits (head_sizes bytes)) (value_bits bytes)
  unfolding T
  decoded_value = rw (decoded, value_B) (values T (bits_of A) (bits_of B) (bits_of_lem A) same_length known_good)
