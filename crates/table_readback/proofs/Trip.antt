-- The record of rows reads back to the rows.
use mathlib.Core.Path.{◌≡◌, refl, sym, ap, ◌∙◌}
use mathlib.Core.Bool.{true, false}
use mathlib.Core.List.{List, [], ◌++◌}
use Prim.Native.Nat.{ℕ, ◌*◌, ◌≤◌}
use native.Mathlib.Omega.{arith}
use lib.ListN.{length, take, replicate, length-replicate}
use lib.Seq.{sets, length-sets, take_at, drop_at}
use borrow.Author.Tests.{eq-eqb, not-false}
use Rattle.lists.specs.Choice.{leaves}
use Rattle.lists.proofs.Choice.{leaves_accepted}
use Rattle.lists.proofs.Store.{part_sets}
use Rattle.rules.specs.Logic.{are_trits}
use Rattle.rules.specs.Geometry.{Layout}
use Rattle.rules.specs.Image.{image_size, layout}
use Rattle.rules.specs.Record.{Sizes, size_trits, sizes_of, record_image, encode_record, head_sizes, decode_image, record_bytes}
use Rattle.rules.specs.Conditions.{bad_trits, bad_sizes, bad_layout}
use Rattle.rules.specs.Refusals.{record_number, read_record_refusal, ReadsBack}
use Rattle.rules.specs.Patch.{laid_out}
use Rattle.rules.specs.Answers.{Accepted, answer_of, Filled, filled_with, Decoded, read_record_call}
use Rattle.rules.specs.Beside.Shape.{handed_on}
use Rattle.rules.proofs.Answers.{accepted}
use Rattle.rules.proofs.Demand.{length_layout}
use Rattle.rules.proofs.GoodLayouts.{good, good_small, handed_some}
use Rattle.rules.proofs.SwizzleSizes.{layout-trits, layout-sizes}
use Rattle.rules.proofs.Records.{reads_back}
use Rattle.record_codec.proofs.Arrays.{whole}
use Rattle.record_codec.proofs.Reading.{record_good, read_0}
use Rattle.table_record.proofs.Swizzled.{image_fits}
use Rattle.table_record.proofs.Written.{image_is, image_trits}
use Rattle.table_rows.specs.Rows.{image_rows, read_rows_refusal_of, read_rows_call}
use Rattle.table_rows.proofs.Reading.{rows_0, rows_done}
use Rattle.table_rows.proofs.Back.{rows_back}
use Rattle.table_readback.specs.Back.{same_sizes, sized_rows, record_rows, behind_end, rows_end_of, record_end}

same_self : (z : Sizes) → same_sizes z z ≡ true
unfolding same_sizes
same_self z =
    rw (eq-eqb z.unit z.unit refl, eq-eqb z.full z.full refl, eq-eqb z.full_depth_of z.full_depth_of refl, eq-eqb z.partial z.partial refl, eq-eqb z.partial_depth z.partial_depth refl)

-- ---- a record read into lent room
module _ (z : Sizes) (image room : List ℕ) (n : length image ≡ size_trits z) (g : bad_sizes z ≡ false) (t : are_trits image ≡ true) (r : size_trits z ≤ length room) where
  abbrev bytes : List ℕ
  bytes = encode_record z image

  back : ReadsBack z image
  back = reads_back z image n g t

  sizes_back : head_sizes bytes ≡ z
  unfolding ReadsBack
  sizes_back = back.1

  image_back : decode_image bytes ≡ image
  unfolding ReadsBack
  image_back = back.2

  number_back : record_number bytes ≡ 0
  unfolding ReadsBack
  number_back = back.0

  no_number : read_record_refusal (length room) bytes ≡ 0
  no_number = sym (read_0 bytes (length room) number_back (rw (ap size_trits sizes_back) r))

  length_bytes : length bytes ≡ record_bytes z
  unfolding record_bytes
  length_bytes = whole bytes (record_good bytes number_back).0 ∙ ap record_bytes sizes_back

  record_read : read_record_call room bytes ≡ record { answer = Accepted z; image = sets room 0 image }
  unfolding read_record_call
  record_read =
      let k = read_record_refusal (length room) bytes in
      let a : Accepted z ≡ answer_of k (head_sizes bytes) = accepted k (head_sizes bytes) z no_number (sym sizes_back) in
      let b : leaves k room (sets room 0 (decode_image bytes)) ≡ sets room 0 image = leaves_accepted k room (sets room 0 (decode_image bytes)) no_number ∙ ap (sets room 0) image_back in
      λ i. record { answer = sym a i; image = b i }

pub front : (l ws : List ℕ) (n : ℕ) → length ws ≡ n → n ≤ length l → take n (sets l 0 ws) ≡ ws
front l ws n e h = ap (λ (k : ℕ). take k (sets l 0 ws)) (sym e) ∙ part_sets l 0 ws (omega arith)

-- ---- the rows of the record of rows
module _ (q : Layout) (g : bad_layout q ≡ false) (rows : List ℕ) (len : length rows ≡ q.depth * q.width) (t : are_trits rows ≡ true) where
  abbrev z : Sizes
  z = sizes_of q

  abbrev image : List ℕ
  image = layout q rows

  pub size_is : size_trits z ≡ image_size q
  size_is = let s = good_small q g in layout-trits q s.unit_pos s.unit_max s.hard_max

  image_long : length image ≡ size_trits z
  image_long = length_layout q rows ∙ sym size_is

  sizes_good : bad_sizes z ≡ false
  sizes_good = let s = good_small q g in layout-sizes q s.unit_pos s.unit_max s.hard_max (good q g).result

  codes_good : are_trits image ≡ true
  unfolding bad_trits
  codes_good = sym (ap are_trits (image_is q rows [] g)) ∙ not-false (are_trits (record_image (sizes_of q) (laid_out q rows []))) (image_trits q rows [] g t)

  -- in room for the largest image and for the most trits
  module _ (blank room : List ℕ) (b : length blank ≡ 131072) (r : length room ≡ 32768) where
    held : List ℕ
    held = sets blank 0 image

    rows_in : image_rows q held ≡ rows
    unfolding held
    rows_in = rows_back q g rows (sets blank 0 image) len (front blank image (image_size q) (length_layout q rows) (omega (arith, image_fits q g)))

    no_number_rows : read_rows_refusal_of q (length room) (length held) ≡ 0
    unfolding held read_rows_refusal_of
    no_number_rows = rows_0 q.depth q.width (image_size q) (length room) (length (sets blank 0 image)) (omega (arith, image_fits q g, length-sets blank 0 image)) (omega (arith, (good_small q g).bits_max))

    rows_call : read_rows_call (handed_on q) room held ≡ filled_with 0 (sets room 0 rows)
    rows_call = sym (rows_done (handed_on q) room held q (handed_some q g) (sets room 0 rows) no_number_rows (ap (sets room 0) (sym rows_in)))

    by_sizes : sized_rows q z room held (Accepted z) ≡ filled_with 0 (sets room 0 rows)
    unfolding sized_rows
    by_sizes = rw (same_self z) rows_call

    decoded : read_record_call blank (encode_record z image) ≡ record { answer = Accepted z; image = held }
    unfolding held
    decoded = record_read z image blank image_long sizes_good codes_good (omega (arith, size_is, image_fits q g))

    by_decoded : sized_rows q z room (read_record_call blank (encode_record z image)).image (read_record_call blank (encode_record z image)).answer ≡ filled_with 0 (sets room 0 rows)
    by_decoded = ap (λ (d : Decoded). sized_rows q z room d.image d.answer) decoded ∙ by_sizes

  rows_read_lem : (room : List ℕ) → length room ≡ 32768 → record_rows q z room (encode_record z image) ≡ filled_with 0 (sets room 0 rows)
  unfolding record_rows
  rows_read_lem room r = by_decoded (replicate 131072 0) room (length-replicate {A = ℕ} 131072 0) r

  rows_front : (room : List ℕ) → length room ≡ 32768 → take (q.depth * q.width) (sets room 0 rows) ≡ rows
  rows_front room r = front room rows (q.depth * q.width) len (omega (arith, (good_small q g).bits_max))

  by_rows : (out line behind room : List ℕ) → length room ≡ 32768 → rows_end_of out line q.depth q.width (filled_with 0 (sets room 0 rows)) behind ≡ behind_end out line q.depth q.width rows behind
  unfolding rows_end_of
  by_rows out line behind room r = ap (λ (l : List ℕ). behind_end out line q.depth q.width l behind) (rows_front room r)

  pub record_long : length (encode_record z image) ≡ record_bytes z
  record_long = length_bytes z image (replicate 131072 0) image_long sizes_good codes_good (omega (arith, size_is, image_fits q g, length-replicate {A = ℕ} 131072 0))

  -- the record of the rows, and what follows it
  pub record_back : (out line behind : List ℕ) → record_end out line q (encode_record z image ++ behind) (Accepted z) ≡ behind_end out line q.depth q.width rows behind
  unfolding record_end
  record_back out line behind =
      let e = encode_record z image in
      let room : List ℕ = replicate 32768 0 in
      (λ i. rows_end_of out line q.depth q.width (record_rows q z room (take_at e behind (record_bytes z) record_long i)) (drop_at e behind (record_bytes z) record_long i))
      ∙ ap (λ (f : Filled). rows_end_of out line q.depth q.width f behind) (rows_read_lem room (length-replicate {A = ℕ} 32768 0))
      ∙ by_rows out line behind room (length-replicate {A = ℕ} 32768 0)
