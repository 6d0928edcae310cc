-- What `split` wrote for a text reads back to the text's table, and with the text behind it the answer is `same`.
use mathlib.Core.Path.{◌≡◌, refl, sym, ap, ◌∙◌}
use mathlib.Core.Logic.{◌≢◌}
use mathlib.Core.Bool.{Bool, true, false}
use mathlib.Core.List.{List, [], ◌∷◌, ◌++◌, append_assoc, append-nil}
use Prim.Native.Nat.{ℕ, zero, suc, ◌*◌, ◌≤◌}
use native.Mathlib.Omega.{arith}
use lib.ListN.{length, take, drop, get_or, replicate, length-append, length-replicate}
use lib.Seq.{sets, take_at, drop_at}
use lib.Dec.{eqb, ltb, leb}
use borrow.Author.Tests.{leb-true, ltb-false, eq-eqb, eqb-true}
use Rattle.lists.specs.Choice.{when◌then◌else◌}
use Rattle.lists.specs.Lists.{all}
use Rattle.lists.proofs.Choice.{and_true}
use Rattle.rules.specs.Limits.{trit_x, max_bits}
use Rattle.rules.specs.Logic.{are_trits}
use Rattle.rules.specs.Geometry.{Layout}
use Rattle.rules.specs.Image.{layout}
use Rattle.rules.specs.Numbers.{ceil_div}
use Rattle.rules.specs.Record.{Sizes, size_trits, sizes_of, array_bytes, record_bytes, encode_record}
use Rattle.rules.specs.Conditions.{bad_layout}
use Rattle.rules.specs.Answers.{Accepted, sizes_call}
use Rattle.rules.specs.Beside.Shape.{handed_on}
use Rattle.rules.proofs.GoodLayouts.{good_small, handed_some}
use Rattle.table_text.specs.Bytes.{max_text, is_blank, is_end, trit_of}
use Rattle.table_text.specs.Scan.{scan_as, scan_start, ended, between, scan_plain, scan_step_of, is_stored, scan_stored, scan_run}
use Rattle.table_text.specs.Head.{head_start, head_run}
use Rattle.table_read.specs.Table.{Table, Parsed, NoTable, IsTable, max_words, head_table, table_of, rows_table, layout_table, parse_table}
use Rattle.table_print.specs.Rows.{rows_from, rows_shown}
use Rattle.table_print.proofs.Back.{rows_append, RowsBack, rows_back}
use Rattle.table_print.proofs.Putting.{shown_all}
use Rattle.table_record.specs.Split.{split_call, SplitEnd}
use Rattle.table_record.proofs.Parsed.{GoodTable, good_table}
use Rattle.table_record.proofs.Written.{split_written}
use Rattle.table_record.proofs.Swizzled.{image_fits}
use Rattle.table_differ.specs.Differ.{same_line, diff_text}
use Rattle.table_differ.proofs.Lines.{diff_same}
use Rattle.table_readback.specs.Back.{line_end, IsBack, text_end, compared_end, behind_end, record_end, head_end, back_by, back_call}
use Rattle.table_readback.proofs.Ends.{none_behind, some_behind, text_accepted}
use Rattle.table_readback.proofs.Trip.{front, size_is, record_long, record_back}
use Rattle.table_readback.proofs.Heads.{OneLine, by_head_of, HeadLine, head_line_lem, line_length, parse_line}

-- ---- a text that gives a table
from_number : (n : ℕ) (q : Layout) (x : List ℕ) (t : Table) → by_head_of n q x ≡ IsTable t → (n ≡ 0) × (layout_table q x ≡ IsTable t)
from_number n q x t e = on (eqb n 0) refl
  where
    on : (b : Bool) → eqb n 0 ≡ b → (n ≡ 0) × (layout_table q x ≡ IsTable t)
    on true k = (eqb-true n 0 k, sym (rw k) ∙ e)
    on false k = let f : NoTable 1 n ≡ IsTable t = sym (rw k) ∙ e in let z : ◌≡◌ {A = ℕ} 0 1 = cc in absurd (omega arith)

from_layout : (q : Layout) (x : List ℕ) (t : Table) → layout_table q x ≡ IsTable t → (bad_layout q ≡ false) × (rows_table q x ≡ IsTable t)
unfolding layout_table
from_layout q x t e = on (bad_layout q) refl e
  where
    on : (b : Bool) → bad_layout q ≡ b → (when b then NoTable 1 10 else rows_table q x) ≡ IsTable t → (bad_layout q ≡ false) × (rows_table q x ≡ IsTable t)
    on true k f = let z : ◌≡◌ {A = ℕ} 0 1 = cc in absurd (omega arith)
    on false k f = (k, f)

from_else : (b : Bool) (x : Parsed) (line reason : ℕ) (t : Table) → (when b then x else NoTable line reason) ≡ IsTable t → x ≡ IsTable t
from_else true x line reason t e = e
from_else false x line reason t e = let z : ◌≡◌ {A = ℕ} 0 1 = cc in absurd (omega arith)

same_table : (a b : Table) → IsTable a ≡ IsTable b → a ≡ b
same_table a b e = cc

from_rows : (q : Layout) (x : List ℕ) (t : Table) → rows_table q x ≡ IsTable t → q ≡ t.layout
unfolding rows_table table_of
from_rows q x t e =
    let r = scan_run q.depth q.width scan_start (replicate max_bits trit_x) x in
    let u : Table = record { layout = q; rows = take (q.depth * q.width) r.rows } in
    ap (λ (v : Table). v.layout) (same_table u t (from_else (eqb r.state.kind 0) (IsTable u) r.state.line r.state.kind t e))

not_long : (b : Bool) (p : Parsed) (t : Table) → (when b then NoTable 1 8 else p) ≡ IsTable t → b ≡ false
not_long true p t e = let z : ◌≡◌ {A = ℕ} 0 1 = cc in absurd (omega arith)
not_long false p t e = refl

from_short : (text : List ℕ) (t : Table) → parse_table text ≡ IsTable t → length text ≤ max_text
unfolding parse_table
from_short text t e =
    ltb-false max_text (length text) (not_long (ltb max_text (length text)) (head_table (head_run head_start (replicate max_words 0) (text ++ (10 ∷ [])))) t e)

-- ---- rows that are read
by_good : (q : Layout) (x : List ℕ) → bad_layout q ≡ false → layout_table q x ≡ rows_table q x
unfolding layout_table
by_good q x g = rw g

by_scan : (q : Layout) (x left : List ℕ) (line row : ℕ) → scan_run q.depth q.width scan_start (replicate max_bits trit_x) x ≡ record { state = scan_as 0 line row 0 0; rows = left }
    → rows_table q x ≡ IsTable (record { layout = q; rows = take (q.depth * q.width) left })
unfolding rows_table table_of
by_scan q x left line row e = ap (table_of q) e

no_rows : (d w : ℕ) (room : List ℕ) → scan_run d w scan_start room (10 ∷ []) ≡ record { state = scan_as 0 3 0 0 0; rows = room }
unfolding scan_run scan_step_of scan_plain is_end is_blank between ended scan_stored is_stored trit_of
no_rows d w room = refl

all_each : (f : ℕ → Bool) (l : List ℕ) (i d : ℕ) → all f l ≡ true → f d ≡ true → f (get_or l i d) ≡ true
all_each f [] i d e g = g
all_each f (x ∷ l) zero d e g = (and_true (f x) (all f l) e).0
all_each f (x ∷ l) (suc i) d e g = all_each f l i d (and_true (f x) (all f l) e).1 g

trits_each : (rows : List ℕ) → are_trits rows ≡ true → (i : ℕ) → get_or rows i trit_x ≤ 2
unfolding are_trits
trits_each rows e i = leb-true (get_or rows i trit_x) 2 (all_each (λ t. leb t trit_x) rows i trit_x e refl)

-- the text of good rows behind any header line of their layout
rows_parse : (q : Layout) → bad_layout q ≡ false → (rows : List ℕ) → length rows ≡ q.depth * q.width → are_trits rows ≡ true
    → rows_table q (rows_from q.width rows 0 q.depth (10 ∷ [])) ≡ IsTable (record { layout = q; rows = rows })
rows_parse q g rows len trits =
    let s = good_small q g in
    let b : RowsBack q.depth q.width rows (replicate max_bits trit_x) (rows_from q.width rows 0 q.depth (10 ∷ [])) = rows_back q.depth q.width rows (replicate max_bits trit_x) (trits_each rows trits) s.depth_max len (omega (arith, s.bits_max, length-replicate {A = ℕ} max_bits trit_x)) in
    by_scan q (rows_from q.width rows 0 q.depth (10 ∷ [])) b.left b.line b.row b.reads ∙ ap (λ (r : List ℕ). IsTable (record { layout = q; rows = r })) b.same

bytes_fit : (z : Sizes) → size_trits z ≤ 131072 → record_bytes z ≤ 32780
unfolding record_bytes array_bytes ceil_div
bytes_fit z h = omega arith

sizes_told : (q : Layout) → bad_layout q ≡ false → sizes_call (handed_on q) ≡ Accepted (sizes_of q)
unfolding sizes_call
sizes_told q g = ap sizes_call (handed_some q g)

by_record : (out line after : List ℕ) (q : Layout) (rows : List ℕ) → bad_layout q ≡ false → head_end out line after (IsTable (record { layout = q; rows = rows })) ≡ record_end out line q after (Accepted (sizes_of q))
unfolding head_end
by_record out line after q rows g = ap (record_end out line q after) (sizes_told q g)

-- ---- a text whose first line is `body`
module _ (body x : List ℕ) (one : OneLine body) (t : Table) (parsed : parse_table (body ++ (10 ∷ x)) ≡ IsTable t) where
  abbrev text : List ℕ
  text = body ++ (10 ∷ x)

  abbrev line : List ℕ
  line = body ++ (10 ∷ [])

  abbrev bits : ℕ
  bits = t.layout.depth * t.layout.width

  good : GoodTable t
  good = good_table text t parsed

  short : length text ≤ max_text
  short = from_short text t parsed

  abbrev head : HeadLine body
  head = head_line_lem body one

  number_0 : head.number ≡ 0
  number_0 = (from_number head.number head.layout (x ++ (10 ∷ [])) t (sym (parse_line body x one short) ∙ parsed)).0

  layout_is : head.layout ≡ t.layout
  layout_is =
      let a = (from_number head.number head.layout (x ++ (10 ∷ [])) t (sym (parse_line body x one short) ∙ parsed)).1 in
      from_rows head.layout (x ++ (10 ∷ [])) t (from_layout head.layout (x ++ (10 ∷ [])) t a).1

  -- whatever follows the line is read by the table's layout
  reads : (y : List ℕ) → length (body ++ (10 ∷ y)) ≤ max_text → parse_table (body ++ (10 ∷ y)) ≡ rows_table t.layout (y ++ (10 ∷ []))
  reads y h =
      parse_line body y one h
      ∙ (λ i. by_head_of (number_0 i) (layout_is i) (y ++ (10 ∷ [])))
      ∙ by_good t.layout (y ++ (10 ∷ [])) good.good

  line_short : length line ≤ max_text
  line_short = omega (arith, short, length-append body (10 ∷ x), length-append body (10 ∷ []))

  -- the header line alone
  line_table : parse_table line ≡ IsTable (record { layout = t.layout; rows = take bits (replicate max_bits trit_x) })
  line_table = reads [] line_short ∙ by_scan t.layout (10 ∷ []) (replicate max_bits trit_x) 3 0 (no_rows t.layout.depth t.layout.width (replicate max_bits trit_x))

  -- ---- what is read back with anything behind the record
  line_ends : (y : List ℕ) → line_end (line ++ y) ≡ length line
  line_ends y =
      ap line_end (append_assoc body (10 ∷ []) y) ∙ line_length body y one ∙ sym (length-append body (10 ∷ []))

  by_line : (out y : List ℕ) → back_call out (line ++ y) ≡ head_end out line y (parse_table line)
  unfolding back_call back_by
  by_line out y =
      ap (λ (n : ℕ). head_end out (take n (line ++ y)) (drop n (line ++ y)) (parse_table (take n (line ++ y)))) (line_ends y)
      ∙ (λ i. head_end out (take_at line y (length line) refl i) (drop_at line y (length line) refl i) (parse_table (take_at line y (length line) refl i)))

  abbrev wrote : List ℕ
  wrote = encode_record (sizes_of t.layout) (layout t.layout t.rows)

  record_read : (out behind : List ℕ) → back_call out (line ++ (wrote ++ behind)) ≡ behind_end out line t.layout.depth t.layout.width t.rows behind
  record_read out behind =
      by_line out (wrote ++ behind)
      ∙ ap (head_end out line (wrote ++ behind)) line_table
      ∙ by_record out line (wrote ++ behind) t.layout (take bits (replicate max_bits trit_x)) good.good
      ∙ record_back t.layout good.good t.rows good.sized good.trits out line behind

  -- ---- the record that `split` writes into room for the longest
  module _ (room : List ℕ) (fits : 32780 ≤ length room) where
    abbrev record_of : List ℕ
    record_of = take (record_bytes (sizes_of t.layout)) (split_call room text).out

    record_is : record_of ≡ wrote
    record_is =
        let z = sizes_of t.layout in
        let s = size_is t.layout good.good t.rows good.sized good.trits in
        let n = record_long t.layout good.good t.rows good.sized good.trits in
        ap (λ (e : SplitEnd). take (record_bytes z) e.out) (split_written room text t parsed fits)
        ∙ front room wrote (record_bytes z) n (omega (arith, bytes_fit z (omega (arith, s, image_fits t.layout good.good))))

    -- the header line and the record: the header line and the rows
    pub split_read_back : (out : List ℕ) → back_call out (line ++ record_of) ≡ text_end out (line ++ rows_shown t.layout.depth t.layout.width t.rows)
    split_read_back out =
        ap (λ (l : List ℕ). back_call out (line ++ l)) (record_is ∙ sym (append-nil wrote))
        ∙ record_read out []
        ∙ sym (none_behind out line t.rows t.layout.depth t.layout.width [] refl)

    -- with the text behind it: `same`
    some : length text ≢ 0
    some e = absurd (omega (arith, length-append body (10 ∷ x)))

    compared : (out : List ℕ) → compared_end out t.layout.depth t.layout.width t.rows (IsTable t) ≡ text_end out (diff_text t.layout.depth t.layout.width t.rows t.rows)
    unfolding compared_end
    compared out = rw (eq-eqb t.layout.depth t.layout.depth refl, eq-eqb t.layout.width t.layout.width refl)

    pub split_same : (out : List ℕ) → back_call out (line ++ (record_of ++ text)) ≡ text_end out same_line
    split_same out =
        let s = good_small t.layout good.good in
        ap (λ (l : List ℕ). back_call out (line ++ (l ++ text))) record_is
        ∙ record_read out text
        ∙ sym (some_behind out line t.rows t.layout.depth t.layout.width text some)
        ∙ ap (compared_end out t.layout.depth t.layout.width t.rows) parsed
        ∙ compared out
        ∙ ap (text_end out) (diff_same t.layout.width t.rows t.layout.depth s.depth_max s.width_max)

  -- ---- the text that is read back gives the table
  abbrev printed : List ℕ
  printed = line ++ rows_shown t.layout.depth t.layout.width t.rows

  shown_is : rows_shown t.layout.depth t.layout.width t.rows ≡ rows_from t.layout.width t.rows 0 t.layout.depth []
  shown_is = let s = good_small t.layout good.good in sym (shown_all t.layout.depth t.layout.width t.rows s.depth_max s.width_max)

  pub back_parses : length printed ≤ max_text → parse_table printed ≡ IsTable t
  back_parses h =
      let y = rows_shown t.layout.depth t.layout.width t.rows in
      let e = append_assoc body (10 ∷ []) y in
      ap parse_table e
      ∙ reads y (omega (arith, h, ap length e))
      ∙ ap (λ (l : List ℕ). rows_table t.layout (l ++ (10 ∷ []))) shown_is
      ∙ ap (rows_table t.layout) (rows_append t.layout.width t.rows 0 t.layout.depth [] (10 ∷ []))
      ∙ rows_parse t.layout good.good t.rows good.sized good.trits

-- a text that fits the room is written whole
pub text_written : (out text : List ℕ) → length text ≤ length out → text_end out text ≡ record { answer = IsBack (Accepted (length text)); out = sets out 0 text }
text_written out text h = sym (text_accepted out text (sets out 0 text) (length text) refl refl h)
