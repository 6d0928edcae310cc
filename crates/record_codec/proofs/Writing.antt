-- Writing: the numbers in their order, what an accepted call knows, and the stores that make the record.
use mathlib.Core.Path.{◌≡◌, refl, sym, ap, ◌∙◌}
use mathlib.Core.Bool.{true, false, ◌||◌}
use Prim.Native.Nat.{ℕ, ◌+◌, ◌*◌, ◌<◌, ◌≤◌}
use native.Mathlib.Omega.{arith}
use mathlib.Core.List.{List, ◌++◌, map, append_assoc}
use lib.ListN.{length}
use lib.Seq.{sets, length-take-le}
use borrow.Author.Tests.{lt-ltb, le-ltb, ltb-false}
use Rattle.lists.proofs.Choice.{or_false, or_left, or_right, or_both, if_zero, hit, miss}
use Rattle.lists.proofs.Store.{sets_at}
use Rattle.rules.specs.Record.{Sizes, size_trits, record_image, word16, pack_bits, array_bytes, known_bit, value_bit, record_head, encode_record, record_bytes}
use Rattle.rules.specs.Conditions.{bad_trits, bad_sizes, no_room_of}
use Rattle.rules.specs.Refusals.{write_record_refusal}
use Rattle.rules.proofs.Headers.{kept}
use Rattle.record_sizes.specs.View.{view_sizes}
use Rattle.record_sizes.specs.declared.Sizes.{Sizes as Machine}
use Rattle.record_reader.specs.Reading.{Words}

pub bytes_are : (z : Sizes) (n r : ℕ) → n ≡ size_trits z → r ≡ 12 + 2 * array_bytes n → r ≡ record_bytes z
unfolding record_bytes
bytes_are z n r e q = q ∙ ap (λ (k : ℕ). 12 + 2 * array_bytes k) e

-- ---- the numbers
module _ (room : ℕ) (z : Sizes) (image : List ℕ) where
  pub write_4 : bad_trits (record_image z image) ≡ true → 4 ≡ write_record_refusal room z image
  unfolding write_record_refusal
  write_4 e = hit 4 _ e

  module _ (t : bad_trits (record_image z image) ≡ false) where
    pub write_17 : bad_sizes z ≡ true → 17 ≡ write_record_refusal room z image
    unfolding write_record_refusal
    write_17 e = miss 4 _ 17 t (hit 17 _ e)

    module _ (g : bad_sizes z ≡ false) where
      pub write_short : length image < size_trits z → 20 ≡ write_record_refusal room z image
      unfolding write_record_refusal no_room_of
      write_short h = miss 4 _ 20 t (miss 17 _ 20 g (hit 20 0 (or_left _ (lt-ltb _ _ h))))

      pub write_full : size_trits z ≤ length image → room < record_bytes z → 20 ≡ write_record_refusal room z image
      unfolding write_record_refusal no_room_of
      write_full h k = miss 4 _ 20 t (miss 17 _ 20 g (hit 20 0 (or_right (le-ltb _ _ h) (lt-ltb _ _ k))))

      pub write_0 : size_trits z ≤ length image → record_bytes z ≤ room → 0 ≡ write_record_refusal room z image
      unfolding write_record_refusal no_room_of
      write_0 h k = miss 4 _ 0 t (miss 17 _ 0 g (miss 20 0 0 (or_both (le-ltb _ _ h) (le-ltb _ _ k)) refl))

  -- ---- what an accepted call knows
  pub record Fits : Type 0 where
    pub trits : bad_trits (record_image z image) ≡ false
    pub sizes : bad_sizes z ≡ false
    pub whole : size_trits z ≤ length image
    pub room_fits : record_bytes z ≤ room

  pub fits : write_record_refusal room z image ≡ 0 → Fits
  unfolding write_record_refusal no_room_of
  fits e =
      let a = if_zero (bad_trits (record_image z image)) 3 _ e in
      let b = if_zero (bad_sizes z) 16 _ a.1 in
      let c = if_zero (no_room_of (length image) (size_trits z) || no_room_of room (record_bytes z)) 19 0 b.1 in
      let d = or_false (no_room_of (length image) (size_trits z)) _ c.0 in
      record { trits = a.0; sizes = b.0; whole = ltb-false (length image) (size_trits z) d.0; room_fits = ltb-false room (record_bytes z) d.1 }

-- ---- the stores
pub length_head : (z : Sizes) → length (record_head z) ≡ 12
unfolding record_head word16
length_head z = refl

pub six : (z : Sizes) (l l1 l2 l3 l4 l5 l6 : List ℕ) → l1 ≡ sets l 0 (word16 5) → l2 ≡ sets l1 2 (word16 z.unit) → l3 ≡ sets l2 4 (word16 z.full)
    → l4 ≡ sets l3 6 (word16 z.full_depth_of) → l5 ≡ sets l4 8 (word16 z.partial) → l6 ≡ sets l5 10 (word16 z.partial_depth) → l6 ≡ sets l 0 (record_head z)
unfolding record_head word16
six z l l1 l2 l3 l4 l5 l6 e1 e2 e3 e4 e5 e6 = rw (e6, e5, e4, e3, e2, e1)

pub image_length : (z : Sizes) (image : List ℕ) → size_trits z ≤ length image → length (record_image z image) ≡ size_trits z
unfolding record_image
image_length z image h = length-take-le (size_trits z) image h

pub stored : (z : Sizes) (l l1 l2 ts : List ℕ) → l1 ≡ sets l 0 (record_head z)
    → l2 ≡ sets l1 12 (pack_bits (array_bytes (length ts)) (map known_bit ts) ++ pack_bits (array_bytes (length ts)) (map value_bit ts))
    → l2 ≡ sets l 0 (encode_record z ts)
unfolding encode_record
stored z l l1 l2 ts e1 e2 =
    let K = pack_bits (array_bytes (length ts)) (map known_bit ts) in
    let W = pack_bits (array_bytes (length ts)) (map value_bit ts) in
    e2 ∙ ap (λ (m : List ℕ). sets m 12 (K ++ W)) e1 ∙ sets_at l 0 12 (record_head z) (K ++ W) (omega (arith, length_head z)) ∙ ap (sets l 0) (sym (append_assoc (record_head z) K W))

-- accepted sizes are 16-bit words
pub words : (s : Machine) → bad_sizes (view_sizes s) ≡ false → Words s
words s g =
    let k = kept (view_sizes s) g in
    record {
      unit_word = omega (arith, k.unit_max);
      full_word = omega (arith, k.full_max);
      full_depth_word = omega (arith, k.full_depth_max);
      partial_word = omega (arith, k.partial_max);
      partial_depth_word = omega (arith, k.partial_depth_max);
    }
