-- The two round trips of records, over the definitions that the promises of `write_record` and `read_record` cite.
use mathlib.Core.Path.{◌≡◌, sym, ap, ◌∙◌}
use mathlib.Core.Bool.{true, false, not}
use Prim.Native.Nat.{ℕ, ◌≤◌}
use native.Mathlib.Omega.{arith}
use mathlib.Core.List.{List}
use lib.ListN.{length, take}
use lib.Seq.{sets, length-sets}
use borrow.Author.Tests.{not-false}
use Rattle.lists.specs.Choice.{leaves}
use Rattle.lists.proofs.Choice.{leaves_accepted, not_is_false}
use Rattle.lists.proofs.Store.{part_sets}
use Rattle.rules.specs.Logic.{are_trits}
use Rattle.rules.specs.Record.{Sizes, size_trits, record_image, encode_record, head_sizes, record_bytes, decode_image}
use Rattle.rules.specs.Conditions.{bad_trits, bad_sizes}
use Rattle.rules.specs.Refusals.{record_number, write_record_refusal, read_record_refusal, ReadsBack, WritesBack}
use Rattle.rules.specs.Answers.{Accepted, answer_of, write_record_call, filled, read_record_call}
use Rattle.rules.proofs.Answers.{accepted}
use Rattle.rules.proofs.Records.{reads_back}
use Rattle.rules.proofs.Written.{are_bytes, writes_back, decoded_length, decoded_trits}
use Rattle.record_codec.proofs.Writing.{fits, image_length, write_0}
use Rattle.record_codec.proofs.Reading.{record_good, read_good, read_0, read_room_lem}
use Rattle.record_codec.proofs.Arrays.{whole}

-- the front of a list that a result was stored in
front : (l ws : List ℕ) (n : ℕ) → length ws ≡ n → n ≤ length l → take n (sets l 0 ws) ≡ ws
front l ws n e h = ap (λ (k : ℕ). take k (sets l 0 ws)) (sym e) ∙ part_sets l 0 ws (omega arith)

-- ---- what is written reads back to the same sizes and image
module _ (out image room : List ℕ) (z : Sizes) (e : write_record_refusal (length out) z image ≡ 0) (r : size_trits z ≤ length room) where
  bytes : List ℕ
  bytes = encode_record z (record_image z image)

  back : ReadsBack z (record_image z image)
  unfolding bad_trits
  back =
      let f = fits (length out) z image e in
      reads_back z (record_image z image) (image_length z image f.whole) f.sizes (not-false (are_trits (record_image z image)) f.trits)

  sizes_back : head_sizes bytes ≡ z
  unfolding ReadsBack bytes
  sizes_back = back.1

  image_back : decode_image bytes ≡ record_image z image
  unfolding ReadsBack bytes
  image_back = back.2

  number_back : read_record_refusal (length room) bytes ≡ 0
  unfolding ReadsBack bytes
  number_back = sym (read_0 bytes (length room) back.0 (rw (ap size_trits sizes_back) r))

  length_back : length bytes ≡ record_bytes z
  unfolding ReadsBack bytes record_bytes
  length_back = whole bytes (record_good bytes back.0).0 ∙ ap record_bytes sizes_back

  -- the bytes in the lent room
  stored : take (record_bytes z) (write_record_call out z image).out ≡ bytes
  unfolding write_record_call filled bytes
  stored = ap (take (record_bytes z)) (leaves_accepted _ out (sets out 0 bytes) e) ∙ front out bytes (record_bytes z) length_back (fits (length out) z image e).room_fits

  read_back : read_record_call room bytes ≡ record { answer = Accepted z; image = sets room 0 (record_image z image) }
  unfolding read_record_call
  read_back =
      let n = read_record_refusal (length room) bytes in
      let a : Accepted z ≡ answer_of n (head_sizes bytes) = accepted n (head_sizes bytes) z number_back (sym sizes_back) in
      let b : leaves n room (sets room 0 (decode_image bytes)) ≡ sets room 0 (record_image z image) = leaves_accepted n room (sets room 0 (decode_image bytes)) number_back ∙ ap (sets room 0) image_back in
      λ i. record { answer = sym a i; image = b i }

  pub written_reads_back : read_record_call room (take (record_bytes z) (write_record_call out z image).out) ≡ record { answer = Accepted z; image = sets room 0 (record_image z image) }
  written_reads_back = ap (read_record_call room) stored ∙ read_back

-- ---- an accepted record is written again, byte by byte
module _ (bytes room out : List ℕ) (b : are_bytes bytes ≡ true) (e : read_record_refusal (length room) bytes ≡ 0) (h : length bytes ≤ length out) where
  z : Sizes
  z = head_sizes bytes

  good : record_number bytes ≡ 0
  good = read_good bytes (length room) e

  image : List ℕ
  image = (read_record_call room bytes).image

  image_is : image ≡ sets room 0 (decode_image bytes)
  unfolding image read_record_call
  image_is = leaves_accepted _ room (sets room 0 (decode_image bytes)) e

  fits_room : size_trits z ≤ length room
  unfolding z
  fits_room = read_room_lem bytes (length room) e

  -- the image in the lent array is the decoded one
  decoded : record_image z image ≡ decode_image bytes
  unfolding record_image z
  decoded = ap (take (size_trits (head_sizes bytes))) image_is ∙ front room (decode_image bytes) (size_trits (head_sizes bytes)) (decoded_length bytes b good) (read_room_lem bytes (length room) e)

  trits_good : bad_trits (record_image z image) ≡ false
  unfolding bad_trits
  trits_good = ap (λ (l : List ℕ). not (are_trits l)) decoded ∙ not_is_false (are_trits (decode_image bytes)) (decoded_trits bytes b good)

  length_is : length bytes ≡ record_bytes z
  unfolding record_bytes z
  length_is = whole bytes (record_good bytes good).0

  sizes_good : bad_sizes z ≡ false
  unfolding z
  sizes_good = (record_good bytes good).1

  length_image : length image ≡ length room
  length_image = ap length image_is ∙ length-sets room 0 (decode_image bytes)

  number_is : write_record_refusal (length out) z image ≡ 0
  number_is = sym (write_0 (length out) z image trits_good sizes_good (omega (arith, fits_room, length_image)) (omega (arith, length_is)))

  written : encode_record z (record_image z image) ≡ bytes
  unfolding WritesBack z
  written = ap (encode_record (head_sizes bytes)) decoded ∙ writes_back bytes b good

  pub read_writes_back : write_record_call out (head_sizes bytes) (read_record_call room bytes).image ≡ record { number = 0; out = sets out 0 bytes }
  unfolding write_record_call filled z image
  read_writes_back =
      let n = write_record_refusal (length out) (head_sizes bytes) (read_record_call room bytes).image in
      let a : n ≡ 0 = number_is in
      let ws = encode_record (head_sizes bytes) (record_image (head_sizes bytes) (read_record_call room bytes).image) in
      let c : leaves n out (sets out 0 ws) ≡ sets out 0 bytes = leaves_accepted n out (sets out 0 ws) a ∙ ap (sets out 0) written in
      λ i. record { number = a i; out = c i }
