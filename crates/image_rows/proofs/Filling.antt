-- Rows written at the front of a longer list, one after the other; and the whole answer of a layout.
use native.Mathlib.Omega.{arith}
use Prim.Native.Nat.{ℕ, zero, suc, ◌+◌, ◌-◌, ◌*◌, ◌≤◌, ◌<◌}
use mathlib.Core.Path.{◌≡◌, refl, sym, ap, ◌∙◌, subst}
use mathlib.Core.Logic.{◌≢◌}
use mathlib.Core.Bool.{not, true}
use mathlib.Core.Option.{none, some}
use mathlib.Core.List.{List, ◌++◌}
use native.Mathlib.Numerals.{add-one}
use native.Mathlib.Nat.{le_of_lt, le_refl, le_of_eq, add-sub_cancel_left, zero-add, mul-le-mul}
use lib.Dec.{eqb, ltb}
use lib.ListN.{length, take, drop, replicate, length-replicate, take-append-drop}
use lib.Seq.{sets, sets-eq, take_at, drop_at}
use borrow.Author.Tests.{eqb-true, ltb-false, not-false, eq-eqb, le-ltb}
use Rattle.lists.specs.Choice.{leaves}
use Rattle.lists.proofs.Choice.{if_zero, leaves_refused, leaves_accepted}
use Rattle.rules.specs.Limits.{trit_x}
use Rattle.rules.specs.Logic.{undef, are_trits}
use Rattle.rules.specs.Geometry.{Layout}
use Rattle.rules.specs.Image.{image_size, write_row, row_of, write_rows, layout, Laid}
use Rattle.rules.specs.Conditions.{bad_trits, no_room_of}
use Rattle.rules.specs.Patch.{laid_out}
use Rattle.rules.specs.Beside.Layouts.{fill_refusal_of, fill_refusal, filled_by, fill_call, fill_refusal_by}
use Rattle.rules.specs.Answers.{Filled}
use Rattle.rules.proofs.Demand.{Accepted, places_below, write_take, write_drop, length_write_rows}

module _ (q : Layout) (z : Accepted q) where
  write_append : (r : ℕ) (v p x : List ℕ) → r < q.depth → image_size q ≤ length p → write_row q r v (p ++ x) ≡ write_row q r v p ++ x
  write_append r v p x l h =
      let b = places_below q z r (length p) l h in
      sym (take-append-drop (length p) (write_row q r v (p ++ x)))
      ∙ ap (λ (t : List ℕ). t ++ drop (length p) (write_row q r v (p ++ x))) (write_take q z r (length p) v (p ++ x) b ∙ ap (write_row q r v) (take_at p x (length p) refl))
      ∙ ap (λ (t : List ℕ). write_row q r v p ++ t) (write_drop q z r (length p) v (p ++ x) b ∙ drop_at p x (length p) refl)

  rows_append : (rows : List ℕ) (n : ℕ) (p x : List ℕ) → n ≤ q.depth → image_size q ≤ length p → write_rows q rows n (p ++ x) ≡ write_rows q rows n p ++ x
  unfolding write_rows
  rows_append rows zero p x l h = refl
  rows_append rows (suc n) p x l h =
      ap (write_row q n (row_of q.width rows n)) (rows_append rows n p x (le_of_lt l) h)
      ∙ write_append n (row_of q.width rows n) (write_rows q rows n p) x l (subst (λ (m : ℕ). image_size q ≤ m) (sym (length_write_rows q rows n p)) h)

  rows_out : (rows buffer : List ℕ) → write_rows q rows q.depth (replicate (image_size q) trit_x ++ drop (image_size q) buffer) ≡ laid_out q rows buffer
  unfolding laid_out layout undef
  rows_out rows buffer =
      rows_append rows q.depth (replicate (image_size q) trit_x) (drop (image_size q) buffer) (le_refl q.depth) (le_of_eq (sym (length-replicate (image_size q) trit_x)))

  -- X over the image, and then the rows
  pub fill_is : (rows buffer blank after : List ℕ) (size : ℕ) → size ≡ image_size q → image_size q ≤ length buffer
      → blank ≡ sets buffer 0 (replicate size trit_x) → after ≡ write_rows q rows q.depth blank → after ≡ laid_out q rows buffer
  fill_is rows buffer blank after size s l b a =
      a ∙ ap (write_rows q rows q.depth) (b ∙ ap (λ (n : ℕ). sets buffer 0 (replicate n trit_x)) s ∙ front) ∙ rows_out rows buffer
    where
      long : 0 + length (replicate (image_size q) trit_x) ≡ image_size q
      long = zero-add _ ∙ length-replicate (image_size q) trit_x

      front : sets buffer 0 (replicate (image_size q) trit_x) ≡ replicate (image_size q) trit_x ++ drop (image_size q) buffer
      front =
          sets-eq (replicate (image_size q) trit_x) buffer 0 (subst (λ (n : ℕ). n ≤ length buffer) (sym long) l)
          ∙ ap (λ (n : ℕ). replicate (image_size q) trit_x ++ drop n buffer) long

-- ---- the loop over the rows
pub rows_more : (q : Layout) (rows : List ℕ) (r : ℕ) (l l' b : List ℕ) → l ≡ write_rows q rows r b → l' ≡ write_row q r (row_of q.width rows r) l → l' ≡ write_rows q rows (r + 1) b
unfolding write_rows
rows_more q rows r l l' b e f = f ∙ ap (write_row q r (row_of q.width rows r)) e ∙ rw (add-one r)

pub rows_none : (q : Layout) (rows b : List ℕ) → b ≡ write_rows q rows 0 b
unfolding write_rows
rows_none q rows b = refl

-- the part of the rows that the code lends is row r
pub row_lent : (r w from width : ℕ) (rows : List ℕ) → from ≡ r * w → width ≡ w → take (from + width - from) (drop from rows) ≡ row_of w rows r
unfolding row_of
row_lent r w from width rows e f = ap (λ (n : ℕ). take n (drop from rows)) (add-sub_cancel_left from width) ∙ (λ k. take (f k) (drop (e k) rows))

-- ---- numbers
pub words_product : (a b d w : ℕ) → a ≡ d → b ≡ w → d < 4294967296 → w < 4294967296 → a * b ≤ 18446744065119617025
words_product a b d w e f h k = mul-le-mul {n₂ = 4294967295} {m₂ = 4294967295} (omega arith) (omega arith)

module _ (depth width size room : ℕ) (rows : List ℕ) where
  pub fill_0 : length rows ≡ depth * width → are_trits rows ≡ true → size ≤ room → fill_refusal_by depth width size room rows ≡ 0
  unfolding fill_refusal_by bad_trits no_room_of
  fill_0 e t l = rw (eq-eqb (length rows) (depth * width) e, t, le-ltb room size l)

pub fill_refusal_is : (q : Layout) (size room : ℕ) (rows : List ℕ) → size ≡ image_size q → fill_refusal_by q.depth q.width size room rows ≡ fill_refusal_of q room rows
unfolding fill_refusal_of
fill_refusal_is q size room rows e = ap (λ (n : ℕ). fill_refusal_by q.depth q.width n room rows) e

-- by the state
pub refusal_none : (l : Laid) (room : ℕ) (rows : List ℕ) → l ≡ none → 23 ≡ fill_refusal l room rows
unfolding fill_refusal
refusal_none l room rows e = sym (ap (λ (x : Laid). fill_refusal x room rows) e)

pub refusal_some : (l : Laid) (q : Layout) (room : ℕ) (rows : List ℕ) → l ≡ some q → fill_refusal_of q room rows ≡ fill_refusal l room rows
unfolding fill_refusal
refusal_some l q room rows e = sym (ap (λ (x : Laid). fill_refusal x room rows) e)

-- what is known where no number refuses
pub fills : (q : Layout) (room : ℕ) (rows : List ℕ) → fill_refusal_of q room rows ≡ 0 → (length rows ≡ q.depth * q.width) × (image_size q ≤ room)
unfolding fill_refusal_of fill_refusal_by no_room_of
fills q room rows e =
    let a = if_zero (not (eqb (length rows) (q.depth * q.width))) 1 _ e in
    let t = if_zero (bad_trits rows) 3 _ a.1 in
    let b = if_zero (ltb room (image_size q)) 19 0 t.1 in
    (eqb-true (length rows) (q.depth * q.width) (not-false _ a.0), ltb-false room (image_size q) b.0)

-- ---- the whole answer
module _ (l : Laid) (rows image : List ℕ) where
  pub fill_unset : l ≡ none → ◌≡◌ {A = Filled} (record { number = 23; out = image }) (fill_call l rows image)
  unfolding fill_call fill_refusal leaves
  fill_unset e = sym (ap (λ (x : Laid). fill_call x rows image) e)

  module _ (q : Layout) (e : l ≡ some q) where
    call_is : fill_call l rows image ≡ record { number = fill_refusal_of q (length image) rows; out = leaves (fill_refusal_of q (length image) rows) image (laid_out q rows image) }
    unfolding fill_call fill_refusal filled_by
    call_is = ap (λ (x : Laid). fill_call x rows image) e

    pub fill_refused : (n : ℕ) → n ≡ fill_refusal_of q (length image) rows → n ≢ 0 → ◌≡◌ {A = Filled} (record { number = n; out = image }) (fill_call l rows image)
    fill_refused n f h = (λ i. record { number = f i; out = sym (leaves_refused _ image (laid_out q rows image) (λ z. h (f ∙ z))) i }) ∙ sym call_is

    pub fill_done : (after : List ℕ) → fill_refusal_of q (length image) rows ≡ 0 → after ≡ laid_out q rows image → ◌≡◌ {A = Filled} (record { number = 0; out = after }) (fill_call l rows image)
    fill_done after f h = (λ i. record { number = sym f i; out = (h ∙ sym (leaves_accepted _ image (laid_out q rows image) f)) i }) ∙ sym call_is
