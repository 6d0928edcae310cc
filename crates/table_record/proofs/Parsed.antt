-- A table that a text gives is good: its layout passes, and its rows are depth × width trits. So no number refuses its record.
use mathlib.Core.Path.{◌≡◌, refl, ap, ◌∙◌, subst}
use mathlib.Core.Bool.{Bool, true, false}
use Prim.Native.Nat.{ℕ, zero, suc, ◌*◌, ◌≤◌}
use native.Mathlib.Omega.{arith}
use mathlib.Core.List.{List, [], ◌∷◌, ◌++◌}
use lib.ListN.{length, take, set, replicate, length-replicate}
use lib.Seq.{length-take-le}
use lib.Dec.{eqb, ltb, leb}
use borrow.Author.Tests.{ltb-true, le-leb}
use Rattle.lists.specs.Choice.{when◌then◌else◌}
use Rattle.lists.specs.Lists.{all}
use Rattle.lists.proofs.Choice.{and_true}
use Rattle.lists.proofs.All.{all_take}
use Rattle.rules.specs.Limits.{trit_x, max_bits}
use Rattle.rules.specs.Logic.{are_trits}
use Rattle.rules.specs.Geometry.{Layout}
use Rattle.rules.specs.Record.{sizes_of}
use Rattle.rules.specs.Conditions.{bad_layout}
use Rattle.rules.specs.Patch.{laid_out}
use Rattle.rules.specs.Answers.{Accepted, Listed}
use Rattle.rules.proofs.GoodLayouts.{good_small}
use Rattle.table_text.specs.Scan.{Scan}
use Rattle.table_text.specs.Bytes.{max_text, trit_of}
use Rattle.table_text.specs.Head.{head_start, HeadEnd, head_run}
use Rattle.table_text.specs.Scan.{scan_start, scan_step_of, place_of, is_stored, scan_stored, scan_run}
use Rattle.table_text.proofs.Runs.{length_scan_stored}
use Rattle.table_read.specs.Table.{Table, Parsed, NoTable, IsTable, max_words, layout_read, head_number, table_of, rows_table, layout_table, head_table, parse_table}
use Rattle.table_record.specs.Split.{record_call, rows_record, SplitEnd, IsSplit, split_by, split_call}
use Rattle.table_record.proofs.Swizzled.{record_is}

-- ---- the rows stay trits, and as many
pub all_set : (f : ℕ → Bool) (l : List ℕ) (i v : ℕ) → all f l ≡ true → f v ≡ true → all f (set l i v) ≡ true
all_set f [] i v e g = refl
all_set f (x ∷ l) zero v e g = rw g (and_true (f x) (all f l) e).1
all_set f (x ∷ l) (suc i) v e g = rw (and_true (f x) (all f l) e).0 (all_set f l i v (and_true (f x) (all f l) e).1 g)

set_trits : (t : Bool) (rows : List ℕ) (i v : ℕ) → are_trits rows ≡ true → (t ≡ true → v ≤ 2) → are_trits (when t then set rows i v else rows) ≡ true
unfolding are_trits
set_trits true rows i v e h = all_set (λ t. leb t trit_x) rows i v e (le-leb v 2 (h refl))
set_trits false rows i v e h = e

stored_small : (d w : ℕ) (s : Scan) (b : ℕ) → is_stored d w s b ≡ true → trit_of b ≤ 2
unfolding is_stored
stored_small d w s b e =
    let r = (and_true (leb s.kind 1) _ e).1 in
    let q = ltb-true (trit_of b) 3 (and_true (ltb (trit_of b) 3) _ r).0 in
    omega arith

stored_trits : (d w : ℕ) (s : Scan) (b : ℕ) (rows : List ℕ) → are_trits rows ≡ true → are_trits (scan_stored d w s b rows) ≡ true
unfolding scan_stored
stored_trits d w s b rows e = set_trits (is_stored d w s b) rows (place_of w s) (trit_of b) e (stored_small d w s b)

run-trits : (d w : ℕ) (s : Scan) (rows text : List ℕ) → are_trits rows ≡ true → are_trits (scan_run d w s rows text).rows ≡ true
unfolding scan_run
run-trits d w s rows [] e = e
run-trits d w s rows (b ∷ text) e = run-trits d w (scan_step_of d w s b) (scan_stored d w s b rows) text (stored_trits d w s b rows e)

run_long : (d w : ℕ) (s : Scan) (rows text : List ℕ) → length (scan_run d w s rows text).rows ≡ length rows
unfolding scan_run
run_long d w s rows [] = refl
run_long d w s rows (b ∷ text) = run_long d w (scan_step_of d w s b) (scan_stored d w s b rows) text ∙ length_scan_stored d w s b rows

pub all_x_lem : (n : ℕ) → are_trits (replicate n trit_x) ≡ true
unfolding are_trits
all_x_lem zero = refl
all_x_lem (suc n) = all_x_lem n

front_trits : (n : ℕ) (l : List ℕ) → are_trits l ≡ true → are_trits (take n l) ≡ true
unfolding are_trits
front_trits n l e = all_take (λ t. leb t trit_x) n l e

-- ---- a text that gives a table
from_if : (b : Bool) (x : Parsed) (line reason : ℕ) (t : Table) → (when b then NoTable line reason else x) ≡ IsTable t → (b ≡ false) × (x ≡ IsTable t)
from_if true x line reason t e = let z : ◌≡◌ {A = ℕ} 0 1 = cc in absurd (omega arith)
from_if false x line reason t e = (refl, e)

from_else : (b : Bool) (x : Parsed) (line reason : ℕ) (t : Table) → (when b then x else NoTable line reason) ≡ IsTable t → x ≡ IsTable t
from_else true x line reason t e = e
from_else false x line reason t e = let z : ◌≡◌ {A = ℕ} 0 1 = cc in absurd (omega arith)

same_table : (a b : Table) → IsTable a ≡ IsTable b → a ≡ b
same_table a b e = cc

pub record GoodTable (t : Table) : Type 0 where
  pub good : bad_layout t.layout ≡ false
  pub sized : length t.rows ≡ t.layout.depth * t.layout.width
  pub trits : are_trits t.rows ≡ true

good_rows : (q : Layout) (text : List ℕ) (t : Table) → bad_layout q ≡ false → rows_table q text ≡ IsTable t → GoodTable t
unfolding rows_table table_of
good_rows q text t g e =
    let r = scan_run q.depth q.width scan_start (replicate max_bits trit_x) text in
    let n = q.depth * q.width in
    let s : record { layout = q; rows = take n r.rows } ≡ t = same_table _ t (from_else (eqb r.state.kind 0) _ r.state.line r.state.kind t e) in
    let l : length r.rows ≡ 32768 = run_long q.depth q.width scan_start (replicate max_bits trit_x) text ∙ length-replicate max_bits trit_x in
    subst GoodTable s
    (record {
      good = g;
      sized = length-take-le n r.rows (omega (arith, (good_small q g).bits_max, l));
      trits = front_trits n r.rows (run-trits q.depth q.width scan_start (replicate max_bits trit_x) text (all_x_lem max_bits));
    })

good_layout : (q : Layout) (text : List ℕ) (t : Table) → layout_table q text ≡ IsTable t → GoodTable t
unfolding layout_table
good_layout q text t e =
    let f = from_if (bad_layout q) (rows_table q text) 1 10 t e in
    good_rows q text t f.0 f.1

good_head : (h : HeadEnd) (t : Table) → head_table h ≡ IsTable t → GoodTable t
unfolding head_table
good_head h t e = good_layout (layout_read h.words h.state.count) h.rest t (from_else (eqb (head_number h.state) 0) _ 1 (head_number h.state) t e)

pub good_table : (text : List ℕ) (t : Table) → parse_table text ≡ IsTable t → GoodTable t
unfolding parse_table
good_table text t e = good_head (head_run head_start (replicate max_words 0) (text ++ (10 ∷ []))) t (from_if (ltb max_text (length text)) _ 1 8 t e).1

-- ---- the record of a text is that of its rows laid out
abbrev pub as_split : Listed → SplitEnd
as_split l = record { answer = IsSplit l.answer; out = l.out }

by_table : (out : List ℕ) (t : Table) → split_by out (IsTable t) ≡ as_split (rows_record out t.layout t.rows)
unfolding split_by
by_table out t = refl

pub split_is : (out text : List ℕ) (t : Table) → parse_table text ≡ IsTable t
    → split_call out text ≡ as_split (record_call out (Accepted (sizes_of t.layout)) (laid_out t.layout t.rows (replicate 131072 0)))
unfolding split_call
split_is out text t e =
    let g = good_table text t e in
    ap (split_by out) e ∙ by_table out t ∙ ap as_split (record_is t.layout t.rows g.good g.sized g.trits out)
