-- The first round trip of records: what is written is read back.
use Prim.Native.Nat.{ℕ, zero, suc, ◌+◌, ◌-◌, ◌*◌, ◌≤◌}
use mathlib.Core.Path.{◌≡◌, refl, sym, ap, ◌∙◌}
use mathlib.Core.Bool.{Bool, true, false}
use mathlib.Core.List.{List, [], ◌∷◌, ◌++◌, map}
use native.Mathlib.Omega.{arith}
use native.Mathlib.Nat.{mod-add-div}
use lib.Dec.{eqb, ltb, leb}
use lib.ListN.{length, take, drop, replicate, length-append, length-map}
use lib.Seq.{take_at, drop_at, drop-drop}
use borrow.Author.Tests.{leb-true, eq-eqb, le-ltb}
use Rattle.rules.specs.Limits.{trit_x, head_bytes, record_mark}
use Rattle.lists.specs.Choice.{when◌then◌else◌, ◌or_else◌}
use Rattle.lists.specs.Lists.{all, any, pairs}
use Rattle.rules.specs.Numbers.{ceil_div}
use Rattle.rules.specs.Logic.{are_trits}
use Rattle.rules.specs.Record.{Sizes, size_trits, word16, word_at, pack_bits, array_bytes, known_bit, value_bit, record_head, encode_record, head_sizes, record_bytes, known_bits, value_bits, bit_pairs, decode_image}
use Rattle.rules.specs.Conditions.{bad_head, bad_sizes, bad_bits, spare_bits}
use Rattle.rules.specs.Refusals.{header_refusal, record_number, ReadsBack}
use Rattle.lists.proofs.Choice.{and_true}
use Rattle.rules.proofs.Bits.{are_bits, length_pack, pack_bits_lem, image_bits}

-- ---- known and value bits
bit_if : (b : Bool) (x y : ℕ) → leb x 1 ≡ true → leb y 1 ≡ true → leb (when b then x else y) 1 ≡ true
bit_if true x y e f = e
bit_if false x y e f = f

known_bits_lem : (l : List ℕ) → are_bits (map known_bit l) ≡ true
unfolding known_bit
known_bits_lem [] = refl
known_bits_lem (t ∷ l) = rw (bit_if (eqb t trit_x) 0 1 refl refl) (known_bits_lem l)

value_bits_lem : (l : List ℕ) → are_bits (map value_bit l) ≡ true
unfolding value_bit
value_bits_lem [] = refl
value_bits_lem (t ∷ l) = rw (bit_if (eqb t 1) 1 0 refl refl) (value_bits_lem l)

pair_good : (t : ℕ) → leb t trit_x ≡ true → ltb (known_bit t) (value_bit t) ≡ false
unfolding known_bit value_bit
pair_good zero e = refl
pair_good (suc zero) e = refl
pair_good (suc (suc zero)) e = refl
pair_good (suc (suc (suc t))) e = absurd (omega (arith, leb-true (suc (suc (suc t))) trit_x e))

pairs_good : (l : List ℕ) → all (λ t. leb t trit_x) l ≡ true → any (λ p. ltb p.0 p.1) (pairs (map known_bit l) (map value_bit l)) ≡ false
pairs_good [] e = refl
pairs_good (t ∷ l) e =
    let f = and_true (leb t trit_x) (all (λ t. leb t trit_x) l) e in
    rw (pair_good t f.0) (pairs_good l f.1)

no_ones : (n m : ℕ) → any (eqb 1) (replicate n 0 ++ replicate m 0) ≡ false
no_ones zero zero = refl
no_ones zero (suc m) = no_ones zero m
no_ones (suc n) m = no_ones n m

-- two lists with something after them, paired as far as they go
take_pairs : (a b y z : List ℕ) → length a ≡ length b → take (length a) (pairs (a ++ y) (b ++ z)) ≡ pairs a b
take_pairs [] b y z e = refl
take_pairs (p ∷ a) [] y z e = absurd (omega arith)
take_pairs (p ∷ a) (q ∷ b) y z e = ap (λ (r : List (ℕ × ℕ)). (p, q) ∷ r) (take_pairs a b y z (omega arith))

room_for : (n : ℕ) → n ≤ 8 * array_bytes n
unfolding array_bytes ceil_div
room_for n = omega arith

module _ (s : Sizes) (image : List ℕ) where
  -- the two arrays, and the zeros after each
  packed : (ℕ → ℕ) → List ℕ
  packed f = pack_bits (array_bytes (length image)) (map f image)

  tail : List ℕ
  tail = replicate (8 * array_bytes (length image) - length image) 0

  head_sizes_lem : head_sizes (encode_record s image) ≡ s
  unfolding head_sizes encode_record record_head word16 word_at
  head_sizes_lem = λ i. record {
    unit = mod-add-div s.unit 256 i;
    full = mod-add-div s.full 256 i;
    full_depth_of = mod-add-div s.full_depth_of 256 i;
    partial = mod-add-div s.partial 256 i;
    partial_depth = mod-add-div s.partial_depth 256 i;
  }

  after_head : drop head_bytes (encode_record s image) ≡ packed known_bit ++ packed value_bit
  unfolding encode_record record_head word16 packed
  after_head = refl

  length_record : length (encode_record s image) ≡ head_bytes + 2 * array_bytes (length image)
  unfolding encode_record record_head word16
  length_record = simp (length-append, length_pack) (omega arith)

  mark : eqb (word_at (encode_record s image) 0) record_mark ≡ true
  unfolding word_at encode_record record_head word16
  mark = refl

  no_ones_tail : any (eqb 1) (tail ++ tail) ≡ false
  unfolding tail
  no_ones_tail = let n = 8 * array_bytes (length image) - length image in no_ones n n

  module _ (h : length image ≡ size_trits s) where
    array_bytes_lem : array_bytes (size_trits (head_sizes (encode_record s image))) ≡ array_bytes (length image)
    array_bytes_lem = ap (λ (z : Sizes). array_bytes (size_trits z)) head_sizes_lem ∙ ap array_bytes (sym h)

    trits_are : size_trits (head_sizes (encode_record s image)) ≡ length image
    trits_are = ap size_trits head_sizes_lem ∙ sym h

    known_are : known_bits (encode_record s image) ≡ map known_bit image ++ tail
    unfolding known_bits packed tail
    known_are =
        rw (array_bytes_lem, after_head, take_at (packed known_bit) (packed value_bit) (array_bytes (length image)) (length_pack _ _), pack_bits_lem (array_bytes (length image)) (map known_bit image) (known_bits_lem image) (rw length-map (room_for (length image))), length-map)

    value_are : value_bits (encode_record s image) ≡ map value_bit image ++ tail
    unfolding value_bits packed tail
    value_are =
        rw (array_bytes_lem, ← drop-drop, after_head, drop_at (packed known_bit) (packed value_bit) (array_bytes (length image)) (length_pack _ _), pack_bits_lem (array_bytes (length image)) (map value_bit image) (value_bits_lem image) (rw length-map (room_for (length image))), length-map)

    pairs_are : bit_pairs (encode_record s image) ≡ pairs (map known_bit image) (map value_bit image)
    unfolding bit_pairs
    pairs_are =
        rw (trits_are, known_are, value_are)
        (ap (λ (n : ℕ). take n (pairs (map known_bit image ++ tail) (map value_bit image ++ tail))) (sym (length-map image known_bit))
        ∙ take_pairs (map known_bit image) (map value_bit image) tail tail (length-map image known_bit ∙ sym (length-map image value_bit)))

    spare_are : spare_bits (encode_record s image) ≡ tail ++ tail
    unfolding spare_bits
    spare_are = rw (trits_are, known_are, value_are, drop_at (map known_bit image) tail (length image) (length-map image known_bit), drop_at (map value_bit image) tail (length image) (length-map image value_bit))

    module _ (good : bad_sizes s ≡ false) (trit : are_trits image ≡ true) where
      codes : all (λ t. leb t trit_x) image ≡ true
      unfolding are_trits
      codes = trit

      image_back : decode_image (encode_record s image) ≡ image
      unfolding decode_image
      image_back = rw pairs_are (image_bits image codes)

      head_good : bad_head (encode_record s image) (length (encode_record s image)) ≡ false
      unfolding bad_head record_bytes
      head_good =
          let l = length_record in
          let a : ltb (length (encode_record s image)) head_bytes ≡ false = le-ltb (length (encode_record s image)) head_bytes (omega (arith, l)) in
          let b : eqb (length (encode_record s image)) (head_bytes + 2 * array_bytes (size_trits (head_sizes (encode_record s image)))) ≡ true = eq-eqb _ _ (l ∙ ap (λ (n : ℕ). head_bytes + 2 * n) (sym array_bytes_lem)) in
          rw (a, b, mark)

      bits_good : bad_bits (encode_record s image) ≡ false
      unfolding bad_bits
      bits_good = rw (pairs_are, pairs_good image codes, spare_are, no_ones_tail)

      pub reads_back : ReadsBack s image
      unfolding ReadsBack record_number header_refusal ◌or_else◌
      reads_back = (rw (head_good, head_sizes_lem, good, bits_good), head_sizes_lem, image_back)
