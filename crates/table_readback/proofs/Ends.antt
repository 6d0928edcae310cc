-- What each function of the crate gives, by cases.
use mathlib.Core.Path.{◌≡◌, refl, sym, ap, ◌∙◌}
use mathlib.Core.Logic.{◌≢◌}
use mathlib.Core.Bool.{true, false}
use mathlib.Core.List.{List, [], ◌∷◌, ◌++◌, append-nil}
use Prim.Native.Nat.{ℕ, zero, suc, ◌+◌, ◌-◌, ◌*◌, ◌≤◌, ◌<◌}
use native.Mathlib.Nat.{zero-add, suc-add}
use native.Mathlib.Omega.{arith}
use lib.ListN.{length, take, drop, get_or, set, replicate, length-drop, take-append-drop, drop_of_length-le}
use lib.Seq.{sets, take_all, length-take-le}
use borrow.Author.Tests.{eq-eqb, ne_eqb, lt-ltb, le-ltb}
use Rattle.lists.proofs.Choice.{leaves_refused, leaves_accepted}
use Rattle.rules.specs.Geometry.{Layout}
use Rattle.rules.specs.Image.{Laid}
use Rattle.rules.specs.Record.{Sizes, record_bytes}
use Rattle.rules.specs.Conditions.{no_room_of}
use Rattle.rules.specs.Refusals.{lent_refusal}
use Rattle.rules.specs.Answers.{Answer, Refused, Accepted, Filled, filled_with, sizes_call, read_record_call}
use Rattle.rules.specs.Beside.Shape.{handed_on}
use Rattle.rules.proofs.Answers.{answer_refused, answer_accepted}
use Rattle.table_read.specs.declared.Table.{Table}
use Rattle.table_read.specs.Table.{Parsed, parse_table}
use Rattle.std.specs.Prelude.{Ok}
use Rattle.table_read.specs.View.{layout_in, parsed_of}
use Rattle.table_print.specs.Rows.{rows_shown}
use Rattle.table_rows.specs.Rows.{read_rows_call}
use Rattle.table_differ.specs.Differ.{diff_text}
use Rattle.table_readback.specs.Back.{line_end, same_sizes, sized_rows, record_rows, IsBack, BackEnd, refused_end, text_end, compared_end, behind_end, rows_end_of, record_end, head_end, back_by, back_call}

-- ---- the record's rows
module _ (q : Layout) (z : Sizes) (room image : List ℕ) (head : Answer Sizes) where
  pub rows_refused : (n : ℕ) → head ≡ Refused n → filled_with n room ≡ sized_rows q z room image head
  unfolding sized_rows
  rows_refused n e = rw e

  pub rows_same : (y : Sizes) (f : Filled) → head ≡ Accepted y → true ≡ same_sizes y z → f ≡ read_rows_call (handed_on q) room image → f ≡ sized_rows q z room image head
  unfolding sized_rows
  rows_same y f e s g = rw (e, ← s) g

  pub rows_other : (y : Sizes) → head ≡ Accepted y → false ≡ same_sizes y z → filled_with 17 room ≡ sized_rows q z room image head
  unfolding sized_rows
  rows_other y e s = rw (e, ← s)

pub rows_are : (q : Layout) (z : Sizes) (room bytes image : List ℕ) (head : Answer Sizes) → head ≡ (read_record_call (replicate 131072 0) bytes).answer → image ≡ (read_record_call (replicate 131072 0) bytes).image
    → sized_rows q z room image head ≡ record_rows q z room bytes
unfolding record_rows
rows_are q z room bytes image head e f = λ i. sized_rows q z room (f i) (e i)

-- ---- a text in lent room
module _ (l text : List ℕ) where
  short : length l < length text → lent_refusal (length l) (length text) ≡ 20
  unfolding no_room_of
  short h = rw (lt-ltb (length l) (length text) h)

  enough : length text ≤ length l → lent_refusal (length l) (length text) ≡ 0
  unfolding no_room_of
  enough h = rw (le-ltb (length l) (length text) h)

  pub text_refused : length l < length text → refused_end l 20 ≡ text_end l text
  unfolding text_end
  text_refused h =
      let e = short h in
      let f : lent_refusal (length l) (length text) ≢ 0 = λ z. absurd (omega (arith, e, z)) in
      let a = sym (answer_refused (lent_refusal (length l) (length text)) (length text) f ∙ ap Refused e) in
      let b = sym (leaves_refused (lent_refusal (length l) (length text)) l (sets l 0 text) f) in
      λ i. record { answer = IsBack (a i); out = b i }

  pub text_accepted : (after : List ℕ) (n : ℕ) → after ≡ sets l 0 text → n ≡ length text → length text ≤ length l → record { answer = IsBack (Accepted n); out = after } ≡ text_end l text
  unfolding text_end
  text_accepted after n p z h =
      let e = enough h in
      let a = ap Accepted z ∙ sym (answer_accepted (lent_refusal (length l) (length text)) (length text) e) in
      let b = p ∙ sym (leaves_accepted (lent_refusal (length l) (length text)) l (sets l 0 text) e) in
      λ i. record { answer = IsBack (a i); out = b i }

-- stores behind a front
set_behind : (p l : List ℕ) (i v : ℕ) → set (p ++ l) (length p + i) v ≡ p ++ set l i v
set_behind [] l i v = ap (λ (n : ℕ). set l n v) (zero-add i)
set_behind (x ∷ p) l i v = ap (λ (n : ℕ). set (x ∷ (p ++ l)) n v) (suc-add (length p) i) ∙ ap (λ (r : List ℕ). x ∷ r) (set_behind p l i v)

sets_behind : (ws p l : List ℕ) (i : ℕ) → sets (p ++ l) (length p + i) ws ≡ p ++ sets l i ws
sets_behind [] p l i = refl
sets_behind (w ∷ ws) p l i =
    let e : suc (length p + i) ≡ length p + suc i = omega arith in
    ap (λ (m : List ℕ). sets m (suc (length p + i)) ws) (set_behind p l i w) ∙ ap (λ (n : ℕ). sets (p ++ set l i w) n ws) e ∙ sets_behind ws p (set l i w) (suc i)

behind_front : (out ws : List ℕ) (at : ℕ) → at ≤ length out → take at out ++ sets (drop at out) 0 ws ≡ sets out at ws
behind_front out ws at h =
    let k : length (take at out) + 0 ≡ at = omega (arith, length-take-le at out h) in
    sym (sets_behind ws (take at out) (drop at out) 0)
    ∙ ap (λ (n : ℕ). sets (take at out ++ drop at out) n ws) k
    ∙ ap (λ (l : List ℕ). sets l at ws) (take-append-drop at out)

pub put-behind : (out ws ys : List ℕ) (at k : ℕ) → at ≤ length out → k ≡ length out - at → ys ≡ sets (take k (drop at out)) 0 ws
    → take at out ++ (ys ++ drop k (drop at out)) ≡ sets out at ws
put-behind out ws ys at k h e f =
    let n : length (drop at out) ≤ k = omega (arith, length-drop at out) in
    let y : ys ≡ sets (drop at out) 0 ws = f ∙ ap (λ (l : List ℕ). sets l 0 ws) (take_all k (drop at out) n) in
    ap (λ (l : List ℕ). take at out ++ (ys ++ l)) (drop_of_length-le (drop at out) {i = k} n)
    ∙ ap (λ (l : List ℕ). take at out ++ l) (append-nil ys ∙ y)
    ∙ behind_front out ws at h

-- ---- against a table
module _ (out rows : List ℕ) (depth width : ℕ) (t : Table) where
  pub other_depth : t.params.depth ≢ depth → refused_end out 2 ≡ compared_end out depth width rows (parsed_of (Ok t))
  unfolding compared_end parsed_of
  other_depth e = rw (ne_eqb t.params.depth depth e)

  pub other_width : t.params.depth ≡ depth → t.params.width ≢ width → refused_end out 2 ≡ compared_end out depth width rows (parsed_of (Ok t))
  unfolding compared_end parsed_of
  other_width d e = rw (eq-eqb t.params.depth depth d, ne_eqb t.params.width width e)

  pub same_table : (r : BackEnd) → t.params.depth ≡ depth → t.params.width ≡ width
      → r ≡ text_end out (diff_text depth width rows (take (t.params.depth * t.params.width) t.rows)) → r ≡ compared_end out depth width rows (parsed_of (Ok t))
  unfolding compared_end parsed_of
  same_table r d w h = rw (eq-eqb t.params.depth depth d, eq-eqb t.params.width width w) h

-- ---- what follows the record
module _ (out line rows : List ℕ) (depth width : ℕ) where
  pub none_behind : (behind : List ℕ) → length behind ≡ 0 → text_end out (line ++ rows_shown depth width rows) ≡ behind_end out line depth width rows behind
  unfolding behind_end
  none_behind [] e = refl
  none_behind (b ∷ bs) e = absurd (omega arith)

  pub some_behind : (behind : List ℕ) → length behind ≢ 0 → compared_end out depth width rows (parse_table behind) ≡ behind_end out line depth width rows behind
  unfolding behind_end
  some_behind [] e = absurd (e refl)
  some_behind (b ∷ bs) e = refl

  pub end_refused : (f : Filled) (n : ℕ) (behind : List ℕ) → f.number ≡ n → n ≢ 0 → refused_end out n ≡ rows_end_of out line depth width f behind
  unfolding rows_end_of
  end_refused f n behind e h = rw (e, ne_eqb n 0 h)

  pub end_rows : (f : Filled) (behind rs : List ℕ) → f.number ≡ 0 → rs ≡ take (depth * width) f.out → behind_end out line depth width rs behind ≡ rows_end_of out line depth width f behind
  unfolding rows_end_of
  end_rows f behind rs e g = rw (eq-eqb f.number 0 e, g)

-- ---- by the record, the sizes and the header
pub rest_is : (n : ℕ) (l : List ℕ) → take (length l) (drop n l) ≡ drop n l
rest_is n l = take_all (length l) (drop n l) (omega (arith, length-drop n l))

module _ (out line after : List ℕ) (q : Layout) where
  pub by_record : (z : Sizes) (n : ℕ) (r : BackEnd) (f : Filled) (behind bytes : List ℕ) → n ≡ record_bytes z → bytes ≡ take n after → behind ≡ take (length after) (drop n after)
      → f ≡ record_rows q z (replicate 32768 0) bytes → r ≡ rows_end_of out line q.depth q.width f behind → r ≡ record_end out line q after (Accepted z)
  unfolding record_end
  by_record z n r f behind bytes e g h k s =
      s
      ∙ (λ i. rows_end_of out line q.depth q.width (k i) ((h ∙ rest_is n after) i))
      ∙ ap (λ (l : List ℕ). rows_end_of out line q.depth q.width (record_rows q z (replicate 32768 0) l) (drop n after)) g
      ∙ ap (λ (m : ℕ). rows_end_of out line q.depth q.width (record_rows q z (replicate 32768 0) (take m after)) (drop m after)) e

-- by the header's table, whose layout is `layout_in t`
pub good_head : (out line after : List ℕ) (t : Table) (r : BackEnd) (q : Layout) (l : Laid) (s : Answer Sizes) → q ≡ layout_in t
    → l ≡ handed_on q → s ≡ sizes_call l → r ≡ record_end out line q after s → r ≡ head_end out line after (parsed_of (Ok t))
unfolding head_end parsed_of
good_head out line after t r q l s e h k m =
    m ∙ ap (record_end out line q after) (k ∙ ap sizes_call h) ∙ ap (λ (x : Layout). record_end out line x after (sizes_call (handed_on x))) e

-- ---- the first line
pub line_at : (text : List ℕ) (i : ℕ) → i < length text → get_or text i 0 ≡ 10 → ((j : ℕ) → j < i → get_or text j 0 ≢ 10) → i + 1 ≡ line_end text
unfolding line_end
line_at [] i h e f = absurd (omega arith)
line_at (b ∷ bs) zero h e f = rw (eq-eqb b 10 e)
line_at (b ∷ bs) (suc i) h e f = let k = line_at bs i (omega arith) e (λ j g. f (suc j) (omega arith)) in rw (ne_eqb b 10 (f 0 (omega arith))) (omega (arith, k))

pub line_none : (text : List ℕ) → ((j : ℕ) → j < length text → get_or text j 0 ≢ 10) → length text ≡ line_end text
unfolding line_end
line_none [] f = refl
line_none (b ∷ bs) f = rw (ne_eqb b 10 (f 0 (omega arith))) (ap suc (line_none bs (λ j g. f (suc j) (omega arith))))

pub by_line : (out text line after : List ℕ) (n : ℕ) (r : BackEnd) (p : Parsed) → n ≡ line_end text → line ≡ take n text → after ≡ take (length text) (drop n text) → p ≡ parse_table line
    → r ≡ head_end out line after p → r ≡ back_call out text
unfolding back_call back_by
by_line out text line after n r p e f g h k =
    k
    ∙ ap (head_end out line after) h
    ∙ (λ i. head_end out (f i) ((g ∙ rest_is n text) i) (parse_table (f i)))
    ∙ ap (λ (m : ℕ). head_end out (take m text) (drop m text) (parse_table (take m text))) e
