-- The record of rows in a good layout is that of the image laid out, and so the one that a swizzle of a memory with these rows gives.
use mathlib.Core.Path.{◌≡◌, refl, sym, ap, ◌∙◌}
use mathlib.Core.Bool.{Bool, true, false, not, ◌&&◌, ◌||◌}
use mathlib.Core.Option.{some}
use Prim.Native.Nat.{ℕ, ◌*◌, ◌≤◌}
use native.Mathlib.Omega.{arith}
use mathlib.Core.List.{List}
use lib.ListN.{length, replicate, length-replicate}
use lib.Dec.{eqb, ltb}
use borrow.Author.Tests.{ltb-false}
use Rattle.lists.specs.Choice.{when◌then◌else◌}
use Rattle.lists.proofs.Choice.{or_false, leaves_accepted}
use Rattle.rules.specs.Limits.{max_columns, max_image}
use Rattle.rules.specs.Logic.{are_trits}
use Rattle.rules.specs.Value.{Value}
use Rattle.rules.specs.Cell.{Given, Plan}
use Rattle.rules.specs.Log.{LogState}
use Rattle.rules.specs.Geometry.{Layout, columns, layout_of}
use Rattle.rules.specs.Image.{trits, image_size}
use Rattle.rules.specs.Record.{Sizes, sizes_of}
use Rattle.rules.specs.Conditions.{result_too_large, image_too_large, bad_layout}
use Rattle.rules.specs.Refusals.{swizzle_refusal}
use Rattle.rules.specs.Patch.{laid_out}
use Rattle.rules.specs.Answers.{Answer, Accepted, sizes_call, SwizzleLent, rooms_of, swizzle_call}
use Rattle.rules.specs.Beside.Layouts.{fill_refusal_of, fill_refusal, filled_by, fill_call}
use Rattle.rules.proofs.GoodLayouts.{good, handed_some}
use Rattle.rules.proofs.Accepts.{init_len_lem, layout_good, number_zero}
use Rattle.rules.proofs.Answers.{accepted}
use Rattle.image_rows.proofs.Filling.{fill_0}
use Rattle.table_record.specs.Split.{record_call, filled_record, rows_record}

-- ---- a good layout's image fits the room
fits_by : (w : Bool) (a n : ℕ) → (not w && (ltb max_columns a || ltb max_image n)) ≡ false → (when w then 0 else n) ≤ 131072
fits_by true a n e = omega arith
fits_by false a n e = ltb-false max_image n (or_false (ltb max_columns a) (ltb max_image n) e).1

pub image_fits : (q : Layout) → bad_layout q ≡ false → image_size q ≤ 131072
unfolding image_size image_too_large result_too_large
image_fits q e = fits_by (eqb q.width 0) (columns q) (trits q) (good q e).result

abbrev blank : List ℕ
blank = replicate max_image 0

module _ (q : Layout) (rows : List ℕ) (g : bad_layout q ≡ false) (len : length rows ≡ q.depth * q.width) (t : are_trits rows ≡ true) where
  no_number : fill_refusal_of q (length blank) rows ≡ 0
  unfolding fill_refusal_of
  no_number = fill_0 q.depth q.width (image_size q) (length blank) rows len t (omega (arith, image_fits q g, length-replicate {A = ℕ} max_image 0))

  filled_is : fill_call (some q) rows blank ≡ record { number = 0; out = laid_out q rows blank }
  unfolding fill_call fill_refusal filled_by
  filled_is = λ i. record { number = no_number i; out = leaves_accepted (fill_refusal_of q (length blank) rows) blank (laid_out q rows blank) no_number i }

  by_filled : (out : List ℕ) → filled_record out q (record { number = 0; out = laid_out q rows blank }) ≡ record_call out (Accepted (sizes_of q)) (laid_out q rows blank)
  unfolding filled_record sizes_call
  by_filled out = ap (λ (l : Answer Sizes). record_call out l (laid_out q rows blank)) (ap sizes_call (handed_some q g))

  -- the record is that of the rows laid out
  pub record_is : (out : List ℕ) → rows_record out q rows ≡ record_call out (Accepted (sizes_of q)) (laid_out q rows blank)
  unfolding rows_record
  record_is out = ap (filled_record out q) (ap (λ l. fill_call l rows blank) (handed_some q g) ∙ filled_is) ∙ by_filled out

-- ---- an accepted swizzle into blank room: the record of its sizes and image is the record of the memory's initial rows
module _ (l : SwizzleLent) (log : List ℕ) (s : LogState) (g : Given) (output : Value) (p : Plan) (e : swizzle_refusal (rooms_of l) (length log) s g output p ≡ 0)
    (b : l.image ≡ blank) (t : are_trits g.mem.init ≡ true) where
  abbrev q : Layout
  q = layout_of g.mem p

  sizes_are : (swizzle_call l log s g output p).sizes ≡ Accepted (sizes_of q)
  unfolding swizzle_call
  sizes_are = sym (accepted (swizzle_refusal (rooms_of l) (length log) s g output p) (sizes_of q) (sizes_of q) e refl)

  image_is : (swizzle_call l log s g output p).image ≡ laid_out q g.mem.init blank
  unfolding swizzle_call
  image_is = leaves_accepted (swizzle_refusal (rooms_of l) (length log) s g output p) l.image (laid_out q g.mem.init l.image) e ∙ ap (laid_out q g.mem.init) b

  rows_long : length g.mem.init ≡ q.depth * q.width
  unfolding layout_of
  rows_long = init_len_lem s.next g output p (number_zero l log s g output p e)

  pub swizzle_record : (out : List ℕ)
      → rows_record out q g.mem.init ≡ record_call out (swizzle_call l log s g output p).sizes (swizzle_call l log s g output p).image
  swizzle_record out =
      record_is q g.mem.init (layout_good s.next g output p (number_zero l log s g output p e)) rows_long t out
      ∙ (λ i. record_call out (sym sizes_are i) (sym image_is i))
