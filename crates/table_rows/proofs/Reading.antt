-- The rows of an image read back: the numbers, one row, and the rows one after the other.
use Prim.Native.Nat.{ℕ, ◌+◌, ◌-◌, ◌*◌, ◌≤◌, ◌<◌}
use mathlib.Core.Path.{◌≡◌, sym, ap, ◌∙◌}
use mathlib.Core.Logic.{◌≢◌}
use mathlib.Core.Bool.{false, ◌||◌}
use mathlib.Core.Option.{none, some}
use mathlib.Core.List.{List, [], ◌++◌}
use native.Mathlib.Omega.{arith}
use native.Mathlib.Nat.{suc-mul, mul-le-mul, zero-mul}
use native.Mathlib.Numerals.{add-one}
use lib.Dec.{ltb}
use lib.ListN.{length, take, replicate, length-replicate}
use lib.Seq.{sets}
use borrow.Author.Tests.{lt-ltb, le-ltb, ltb-false}
use Rattle.lists.specs.Choice.{leaves}
use Rattle.lists.specs.Lists.{concat_map}
use Rattle.lists.proofs.Choice.{if_zero, or_false, leaves_accepted}
use Rattle.lists.proofs.Store.{sets_at, part_sets}
use Rattle.lists.proofs.UpFrom.{count_step, count_end}
use Rattle.rules.specs.Geometry.{Layout}
use Rattle.rules.specs.Image.{image_size, Laid}
use Rattle.rules.specs.Conditions.{no_room_of, bad_layout}
use Rattle.rules.specs.Beside.Shape.{handed_on}
use Rattle.rules.specs.Beside.Layouts.{read_row, read_row_refusal_of, read_row_refusal, row_read, read_row_call}
use Rattle.rules.specs.Answers.{Filled, filled}
use Rattle.rules.proofs.Answers.{filled-kept, filled-done}
use Rattle.rules.proofs.GoodLayouts.{good_small, handed_some}
use Rattle.rules.proofs.ReadBack.{length_read_row}
use Rattle.image_rows.proofs.Reading.{read_0}
use Rattle.table_rows.specs.Rows.{rows_on, image_rows, read_rows_refusal_by, read_rows_refusal_of, read_rows_refusal, rows_read, read_rows_call}

-- ---- numbers
module _ (depth width size room len : ℕ) where
  pub rows_0 : size ≤ len → depth * width ≤ room → read_rows_refusal_by depth width size room len ≡ 0
  unfolding read_rows_refusal_by no_room_of
  rows_0 a b = rw (le-ltb len size a, le-ltb room (depth * width) b)

pub rows_refusal_is : (q : Layout) (size room len : ℕ) → size ≡ image_size q → read_rows_refusal_by q.depth q.width size room len ≡ read_rows_refusal_of q room len
unfolding read_rows_refusal_of
rows_refusal_is q size room len e = ap (λ (n : ℕ). read_rows_refusal_by q.depth q.width n room len) e

-- what is known where no number refuses
pub rows_read_lem : (q : Layout) (room len : ℕ) → read_rows_refusal_of q room len ≡ 0 → image_size q ≤ len
unfolding read_rows_refusal_of read_rows_refusal_by no_room_of
rows_read_lem q room len e =
    let b = if_zero (ltb len (image_size q) || ltb room (q.depth * q.width)) 19 0 e in
    ltb-false len (image_size q) (or_false (ltb len (image_size q)) (ltb room (q.depth * q.width)) b.0).0

module _ (l : Laid) (room image : List ℕ) where
  pub rows_unset : l ≡ none → ◌≡◌ {A = Filled} (record { number = 23; out = room }) (read_rows_call l room image)
  unfolding read_rows_call read_rows_refusal filled leaves
  rows_unset e = sym (ap (λ (x : Laid). read_rows_call x room image) e)

  module _ (q : Layout) (e : l ≡ some q) where
    pub rows_call : read_rows_call l room image ≡ filled (read_rows_refusal_of q (length room) (length image)) room (image_rows q image)
    unfolding read_rows_call read_rows_refusal rows_read
    rows_call = ap (λ (x : Laid). read_rows_call x room image) e

    pub rows_refused : (n : ℕ) → n ≡ read_rows_refusal_of q (length room) (length image) → n ≢ 0 → ◌≡◌ {A = Filled} (record { number = n; out = room }) (read_rows_call l room image)
    rows_refused n f h = filled-kept _ n room _ (sym f) h ∙ sym rows_call

    pub rows_done : (after : List ℕ) → read_rows_refusal_of q (length room) (length image) ≡ 0 → after ≡ sets room 0 (image_rows q image) → ◌≡◌ {A = Filled} (record { number = 0; out = after }) (read_rows_call l room image)
    rows_done after f h = filled-done _ room _ after f h ∙ sym rows_call

-- ---- one row, in room for the widest
abbrev pub widest : List ℕ
widest = replicate 128 0

module _ (q : Layout) (g : bad_layout q ≡ false) (image : List ℕ) (fits : image_size q ≤ length image) (row : ℕ) (h : row < q.depth) where
  width_fits : q.width ≤ length widest
  width_fits = omega (arith, (good_small q g).width_max, length-replicate {A = ℕ} 128 0)

  row_0 : read_row_refusal_of q (length widest) (length image) row ≡ 0
  unfolding read_row_refusal_of
  row_0 = read_0 q.depth q.width (image_size q) (length widest) (length image) row h fits width_fits

  row_call : (read_row_call (some q) widest image row).out ≡ sets widest 0 (read_row q image row)
  unfolding read_row_call read_row_refusal row_read filled
  row_call = leaves_accepted (read_row_refusal_of q (length widest) (length image) row) widest (sets widest 0 (read_row q image row)) row_0

  row_front : take q.width (sets widest 0 (read_row q image row)) ≡ read_row q image row
  row_front =
      let w = length_read_row q image row in
      ap (λ (n : ℕ). take n (sets widest 0 (read_row q image row))) (sym w) ∙ part_sets widest 0 (read_row q image row) (omega (arith, w, width_fits))

  -- what is copied is the row
  pub row_is : (bits : List ℕ) (n w : ℕ) → record { number = n; out = bits } ≡ read_row_call (handed_on q) widest image row → w ≡ q.width → take w bits ≡ read_row q image row
  row_is bits n w e f =
      let b : bits ≡ sets widest 0 (read_row q image row) = ap (λ (x : Filled). x.out) e ∙ ap (λ (l : Laid). (read_row_call l widest image row).out) (handed_some q g) ∙ row_call in
      ap (λ (k : ℕ). take k bits) f ∙ ap (take q.width) b ∙ row_front

-- ---- the rows one after the other
module _ (q : Layout) (image : List ℕ) where
  pub on_step : (r n : ℕ) → r < n → rows_on q image r (n - r) ≡ read_row q image r ++ rows_on q image (r + 1) (n - (r + 1))
  unfolding rows_on
  on_step r n h = ap (concat_map (read_row q image)) (count_step r n h)

  pub on_end : (r n : ℕ) → n ≤ r → rows_on q image r (n - r) ≡ []
  unfolding rows_on
  on_end r n h = ap (concat_map (read_row q image)) (count_end r n h)

  pub on_start : (room : List ℕ) → sets room 0 (rows_on q image 0 (q.depth - 0)) ≡ sets room 0 (image_rows q image)
  unfolding image_rows
  on_start room = let z : q.depth - 0 ≡ q.depth = omega arith in rw z

  pub on_turn : (room room' : List ℕ) (at at' r : ℕ) → r < q.depth → room' ≡ sets room at (read_row q image r) → at' ≡ at + q.width
      → sets room' at' (rows_on q image (r + 1) (q.depth - (r + 1))) ≡ sets room at (rows_on q image r (q.depth - r))
  on_turn room room' at at' r h e f =
      ap (λ (l : List ℕ). sets l at' (rows_on q image (r + 1) (q.depth - (r + 1)))) e
      ∙ sets_at room at at' (read_row q image r) (rows_on q image (r + 1) (q.depth - (r + 1))) (f ∙ ap (λ (n : ℕ). at + n) (sym (length_read_row q image r)))
      ∙ ap (sets room at) (sym (on_step r q.depth h))

  pub on_last : (room : List ℕ) (at r : ℕ) → q.depth ≤ r → sets room at (rows_on q image r (q.depth - r)) ≡ room
  on_last room at r h = ap (sets room at) (on_end r q.depth h)

-- ---- how far the rows go
pub times_max : (r w d : ℕ) → r ≤ d → d ≤ 32768 → w ≤ 128 → r * w ≤ 32768 * 128
times_max r w d h k m = mul-le-mul {n₂ = 32768} {m₂ = 128} (omega arith) m

pub one_more : (r w : ℕ) → (r + 1) * w ≡ r * w + w
one_more r w = rw add-one (suc-mul r w)

pub no_times : (w : ℕ) → 0 ≡ 0 * w
no_times w = sym (zero-mul w)
