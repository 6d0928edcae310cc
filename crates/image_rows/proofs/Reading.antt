-- A row read back: its numbers after 23, and the whole answer.
use Prim.Native.Nat.{ℕ, ◌≤◌, ◌<◌}
use mathlib.Core.Path.{◌≡◌, sym, ap, ◌∙◌}
use mathlib.Core.Logic.{◌≢◌}
use mathlib.Core.Bool.{◌||◌}
use mathlib.Core.Option.{none, some}
use mathlib.Core.List.{List}
use lib.Dec.{ltb, leb}
use lib.ListN.{length}
use lib.Seq.{sets}
use borrow.Author.Tests.{leb-false, ltb-false, lt-leb, le-ltb}
use Rattle.lists.specs.Choice.{leaves}
use Rattle.lists.proofs.Choice.{if_zero, or_false}
use Rattle.rules.specs.Geometry.{Layout}
use Rattle.rules.specs.Image.{image_size, Laid}
use Rattle.rules.specs.Conditions.{not_below, no_room_of}
use Rattle.rules.specs.Beside.Layouts.{read_row, read_row_refusal_of, read_row_refusal, row_read, read_row_call, read_row_refusal_by}
use Rattle.rules.specs.Answers.{Filled, filled}
use Rattle.rules.proofs.Answers.{filled-kept, filled-done}

module _ (depth width size room len row : ℕ) where
  pub read_0 : row < depth → size ≤ len → width ≤ room → read_row_refusal_by depth width size room len row ≡ 0
  unfolding read_row_refusal_by not_below no_room_of
  read_0 a b c = rw (lt-leb depth row a, le-ltb len size b, le-ltb room width c)

pub read_refusal_is : (q : Layout) (size room len row : ℕ) → size ≡ image_size q → read_row_refusal_by q.depth q.width size room len row ≡ read_row_refusal_of q room len row
unfolding read_row_refusal_of
read_refusal_is q size room len row e = ap (λ (n : ℕ). read_row_refusal_by q.depth q.width n room len row) e

-- what is known where no number refuses
pub reads : (q : Layout) (room len row : ℕ) → read_row_refusal_of q room len row ≡ 0 → (row < q.depth) × (q.width ≤ room)
unfolding read_row_refusal_of read_row_refusal_by not_below no_room_of
reads q room len row e =
    let a = if_zero (leb q.depth row) 14 _ e in
    let b = if_zero (ltb len (image_size q) || ltb room q.width) 19 0 a.1 in
    (leb-false q.depth row a.0, ltb-false room q.width (or_false (ltb len (image_size q)) (ltb room q.width) b.0).1)

module _ (l : Laid) (room image : List ℕ) (row : ℕ) where
  pub read_unset : l ≡ none → ◌≡◌ {A = Filled} (record { number = 23; out = room }) (read_row_call l room image row)
  unfolding read_row_call read_row_refusal filled leaves
  read_unset e = sym (ap (λ (x : Laid). read_row_call x room image row) e)

  module _ (q : Layout) (e : l ≡ some q) where
    call_is : read_row_call l room image row ≡ filled (read_row_refusal_of q (length room) (length image) row) room (read_row q image row)
    unfolding read_row_call read_row_refusal row_read
    call_is = ap (λ (x : Laid). read_row_call x room image row) e

    pub read_refused : (n : ℕ) → n ≡ read_row_refusal_of q (length room) (length image) row → n ≢ 0 → ◌≡◌ {A = Filled} (record { number = n; out = room }) (read_row_call l room image row)
    read_refused n f h = filled-kept _ n room _ (sym f) h ∙ sym call_is

    pub read_done : (after : List ℕ) → read_row_refusal_of q (length room) (length image) row ≡ 0 → after ≡ sets room 0 (read_row q image row) → ◌≡◌ {A = Filled} (record { number = 0; out = after }) (read_row_call l room image row)
    read_done after f h = filled-done _ room _ after f h ∙ sym call_is
