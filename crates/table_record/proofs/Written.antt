-- The record of a table that a text gives is written: no number refuses it in room for the longest record.
use mathlib.Core.Path.{◌≡◌, refl, sym, ap, ◌∙◌}
use mathlib.Core.Bool.{Bool, true, false}
use Prim.Native.Nat.{ℕ, zero, suc, ◌*◌, ◌≤◌}
use native.Mathlib.Omega.{arith}
use mathlib.Core.List.{List, [], ◌∷◌}
use lib.ListN.{length, drop, get_or, replicate, length-append}
use lib.Seq.{take_at, sets}
use lib.Dec.{eqb, leb}
use Rattle.lists.specs.Lists.{all, part}
use Rattle.lists.proofs.Choice.{and_true, not_is_false, leaves_accepted}
use Rattle.lists.proofs.All.{all_take, all_drop}
use Rattle.rules.specs.Limits.{trit_x, None}
use Rattle.rules.specs.Logic.{undef, are_trits}
use Rattle.rules.specs.Geometry.{Layout}
use Rattle.rules.specs.Image.{image_size, index_of, put, put_row, write_row, row_of, write_rows, layout}
use Rattle.rules.specs.Numbers.{ceil_div}
use Rattle.rules.specs.Record.{Sizes, size_trits, sizes_of, record_image, array_bytes, record_bytes, encode_record}
use Rattle.rules.specs.Refusals.{write_record_refusal}
use Rattle.rules.specs.Answers.{Accepted, answer_of, filled, write_record_call}
use Rattle.rules.proofs.Answers.{accepted}
use Rattle.lists.specs.Choice.{leaves}
use Rattle.rules.specs.Conditions.{bad_trits, bad_layout}
use Rattle.rules.specs.Patch.{laid_out}
use Rattle.rules.proofs.Demand.{length_layout}
use Rattle.rules.proofs.GoodLayouts.{good, good_small}
use Rattle.rules.proofs.SwizzleSizes.{layout-trits, layout-sizes}
use Rattle.record_codec.proofs.Writing.{write_0}
use Rattle.table_read.specs.Table.{Table, IsTable, parse_table}
use Rattle.table_record.specs.Split.{record_call, IsSplit, split_call}
use Rattle.table_record.proofs.Swizzled.{image_fits}
use Rattle.table_record.proofs.Parsed.{all_set, all_x_lem, as_split, good_table, split_is}

abbrev is_trit_of : ℕ → Bool
is_trit_of t = leb t trit_x

each : (l : List ℕ) (i : ℕ) → all is_trit_of l ≡ true → is_trit_of (get_or l i 0) ≡ true
each [] i e = refl
each (x ∷ l) zero e = (and_true (is_trit_of x) (all is_trit_of l) e).0
each (x ∷ l) (suc i) e = each l i (and_true (is_trit_of x) (all is_trit_of l) e).1

put-trits : (b : Bool) (at t : ℕ) (image : List ℕ) → all is_trit_of image ≡ true → is_trit_of t ≡ true → all is_trit_of (put b at t image) ≡ true
unfolding put
put-trits true at t image e h = e
put-trits false at t image e h = all_set is_trit_of image at t e h

row_trits : (at : ℕ → ℕ) (es : List ℕ) (i : ℕ) (ts image : List ℕ) → all is_trit_of ts ≡ true → all is_trit_of image ≡ true → all is_trit_of (put_row at es i ts image) ≡ true
unfolding put_row
row_trits at [] i ts image h e = e
row_trits at (x ∷ es) i ts image h e = row_trits at es (suc i) ts (put (eqb x None) (at i) (get_or ts x 0) image) h (put-trits (eqb x None) (at i) (get_or ts x 0) image e (each ts x h))

rows_trits : (q : Layout) (rows : List ℕ) (n : ℕ) (image : List ℕ) → all is_trit_of rows ≡ true → all is_trit_of image ≡ true → all is_trit_of (write_rows q rows n image) ≡ true
unfolding write_rows write_row row_of
rows_trits q rows zero image h e = e
rows_trits q rows (suc n) image h e =
    row_trits (index_of q n) q.entries 0 (part (n * q.width) q.width rows) (write_rows q rows n image)
    (all_take is_trit_of q.width (drop (n * q.width) rows) (all_drop is_trit_of (n * q.width) rows h)) (rows_trits q rows n image h e)

layout_is_trits : (q : Layout) (rows : List ℕ) → are_trits rows ≡ true → are_trits (layout q rows) ≡ true
unfolding are_trits layout undef
layout_is_trits q rows e = rows_trits q rows q.depth (replicate (image_size q) trit_x) e (all_x_lem (image_size q))

-- the image in the record is the rows' layout, and number 4 does not refuse it
pub image_is : (q : Layout) (rows buffer : List ℕ) → bad_layout q ≡ false → record_image (sizes_of q) (laid_out q rows buffer) ≡ layout q rows
unfolding record_image laid_out
image_is q rows buffer g =
    let s = good_small q g in
    take_at (layout q rows) (drop (image_size q) buffer) (size_trits (sizes_of q)) (length_layout q rows ∙ sym (layout-trits q s.unit_pos s.unit_max s.hard_max))

pub image_trits : (q : Layout) (rows buffer : List ℕ) → bad_layout q ≡ false → are_trits rows ≡ true → bad_trits (record_image (sizes_of q) (laid_out q rows buffer)) ≡ false
unfolding bad_trits
image_trits q rows buffer g t = not_is_false (are_trits (record_image (sizes_of q) (laid_out q rows buffer))) (ap are_trits (image_is q rows buffer g) ∙ layout_is_trits q rows t)

-- ---- no number refuses the record in room for the longest
bytes_fit : (z : Sizes) → size_trits z ≤ 131072 → record_bytes z ≤ 32780
unfolding record_bytes array_bytes ceil_div
bytes_fit z h = omega arith

module _ (q : Layout) (rows buffer out : List ℕ) (g : bad_layout q ≡ false) (t : are_trits rows ≡ true) (room : 32780 ≤ length out) where
  abbrev z : Sizes
  z = sizes_of q

  abbrev image : List ℕ
  image = laid_out q rows buffer

  size_is : size_trits z ≡ image_size q
  size_is = let s = good_small q g in layout-trits q s.unit_pos s.unit_max s.hard_max

  image_long : size_trits z ≤ length image
  unfolding laid_out
  image_long = omega (arith, size_is, length_layout q rows, length-append (layout q rows) (drop (image_size q) buffer))

  no_number : write_record_refusal (length out) z image ≡ 0
  no_number =
      let s = good_small q g in
      sym (write_0 (length out) z image (image_trits q rows buffer g t) (layout-sizes q s.unit_pos s.unit_max s.hard_max (good q g).result) image_long (omega (arith, bytes_fit z (omega (arith, size_is, image_fits q g)))))

  -- the record is written: its bytes are those of the rows' layout
  pub written : record_call out (Accepted z) image ≡ record { answer = Accepted (record_bytes z); out = sets out 0 (encode_record z (layout q rows)) }
  unfolding record_call write_record_call filled
  written =
      let a : answer_of (write_record_refusal (length out) z image) (record_bytes z) ≡ Accepted (record_bytes z) = sym (accepted _ (record_bytes z) (record_bytes z) no_number refl) in
      let b : leaves (write_record_refusal (length out) z image) out (sets out 0 (encode_record z (record_image z image))) ≡ sets out 0 (encode_record z (layout q rows)) = leaves_accepted _ out _ no_number ∙ ap (λ (l : List ℕ). sets out 0 (encode_record z l)) (image_is q rows buffer g) in
      λ i. record { answer = a i; out = b i }

-- the record of a text that gives a table
pub split_written : (out text : List ℕ) (t : Table) → parse_table text ≡ IsTable t → 32780 ≤ length out
    → split_call out text ≡ record { answer = IsSplit (Accepted (record_bytes (sizes_of t.layout))); out = sets out 0 (encode_record (sizes_of t.layout) (layout t.layout t.rows)) }
split_written out text t e h =
    let g = good_table text t e in
    split_is out text t e ∙ ap as_split (written t.layout t.rows (replicate 131072 0) out g.good g.trits h)
