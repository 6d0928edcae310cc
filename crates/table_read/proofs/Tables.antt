-- The steps from a text to its table: the header's words, the layout's test and the rows.
use mathlib.Core.Path.{◌≡◌, refl, sym, ap, ◌∙◌}
use mathlib.Core.Logic.{◌≢◌}
use mathlib.Core.Bool.{Bool, true, false}
use mathlib.Core.Option.{none, some}
use mathlib.Core.List.{List, [], ◌∷◌, ◌++◌}
use Prim.Native.Nat.{ℕ, ◌-◌, ◌*◌, ◌≤◌, ◌<◌}
use native.Mathlib.Omega.{arith}
use lib.ListN.{length, take, drop, get_or}
use lib.Seq.{sets}
use lib.Dec.{eqb, ltb}
use borrow.Author.Tests.{eq-eqb, ne_eqb, lt-ltb, le-ltb, ltb-false}
use Rattle.lists.specs.Choice.{when◌then◌else◌}
use Rattle.lists.specs.Lists.{part, up_from}
use Rattle.lists.proofs.Choice.{or_left, or_later}
use Rattle.lists.proofs.Store.{part_sets}
use Rattle.lists.proofs.Parts.{length_part}
use Rattle.lists.proofs.UpFrom.{length_up}
use Rattle.rules.specs.Limits.{max_depth, max_width}
use Rattle.rules.specs.Geometry.{Layout}
use Rattle.rules.specs.Conditions.{bad_layout_sizes, bad_layout}
use Rattle.rules.specs.Beside.Shape.{Shape, shape_of, laid_shape}
use Rattle.std.specs.Prelude.{Result, Ok, Err, is_err}
use Rattle.rules.specs.declared.numbers.Refusal.{Refusal}
use Rattle.image_check.specs.View.{checked_of}
use Rattle.image_geometry.specs.declared.Shape.{Shape as Measured}
use Rattle.image_geometry.specs.declared.Params.{Params}
use Rattle.image_geometry.specs.View.{layout_by}
use Rattle.table_text.specs.Bytes.{max_text}
use Rattle.table_text.specs.Head.{head_start, HeadEnd, head_run, head_read}
use Rattle.table_text.specs.Scan.{ScanEnd, scan_start, scan_run, rows_read}
use Rattle.table_text.specs.declared.reason.Reason.{Reason}
use Rattle.table_text.specs.declared.scan.Kind.TheVariants.{Refused}
use Rattle.table_text.specs.declared.scan.Scan.{Scan}
use Rattle.table_text.specs.View.{reason_number, scan_of}
use Rattle.table_text.proofs.Closed.{is_closed, text_closed, reason_not_0, gap_where_closed}
use Rattle.table_read.specs.Table.{NoTable, IsTable, table_of, entries_read, layout_read, head_number, layout_table, head_table}
use Rattle.table_read.specs.View.{params_read}

-- ---- entries
taken_sets : (room ws : List ℕ) (n : ℕ) → n ≡ length ws → length ws ≤ length room → take n (sets room 0 ws) ≡ ws
taken_sets room ws n e h = rw e (part_sets room 0 ws (omega arith))

module _ (room words out : List ℕ) (count : ℕ) (r : length room ≡ 256) where
  pub plain_entries : (width : ℕ) → count ≡ 5 → width ≡ get_or words 1 0 → width ≤ 128 → out ≡ sets room 0 (up_from 0 (width - 0))
      → take width out ≡ entries_read words count
  unfolding entries_read
  plain_entries width c e h o =
      let z : width - 0 ≡ width = omega arith in
      rw (eq-eqb count 5 c, ← e, o, z) (taken_sets room (up_from 0 width) width (sym (length_up 0 width)) (omega (arith, length_up 0 width)))

  pub given_entries : (n m : ℕ) → count ≢ 5 → length words ≡ 261 → count ≤ 261 → n ≡ count - 5 → m ≡ n → out ≡ sets room 0 (part 2 m words)
      → take n out ≡ entries_read words count
  unfolding entries_read
  given_entries n m c l h e f o =
      let k : length (part 2 (count - 5) words) ≡ count - 5 = length_part 2 (count - 5) words (omega arith) in
      rw (ne_eqb count 5 c, o, f, e) (taken_sets room (part 2 (count - 5) words) (count - 5) (sym k) (omega arith))

-- ---- the test of a layout
from_none : (t : Bool) (s : Shape) → none ≡ (when t then none else some s) → true ≡ t
from_none true s e = refl
from_none false s e = let z : ◌≡◌ {A = ℕ} 0 1 = cc in absurd (omega arith)

from_some : (t : Bool) (s s' : Shape) → some s' ≡ (when t then none else some s) → false ≡ t
from_some true s s' e = let z : ◌≡◌ {A = ℕ} 0 1 = cc in absurd (omega arith)
from_some false s s' e = refl

pub is_bad : (q : Layout) → none ≡ laid_shape q → true ≡ bad_layout q
unfolding laid_shape
is_bad q e = from_none (bad_layout q) (shape_of q) e

pub is_good : (q : Layout) (s : Shape) → some s ≡ laid_shape q → false ≡ bad_layout q
unfolding laid_shape
is_good q s e = from_some (bad_layout q) (shape_of q) s e

-- by what the code's check gives
pub bad_by : (q : Layout) (r : Result Measured Refusal) → checked_of r ≡ laid_shape q → is_err r ≡ bad_layout q
bad_by q (Err x) e = is_bad q e
bad_by q (Ok s) e = is_good q _ e

-- a row that is too wide
pub wide_bad : (q : Layout) → max_width < q.width → bad_layout q ≡ true
unfolding bad_layout bad_layout_sizes
wide_bad q h = or_left _ (or_later (ltb max_depth q.depth) (or_left _ (lt-ltb max_width q.width h)))

-- ---- the two machines on a text that is not too long
pub head_short : (ws text : List ℕ) → length text ≤ max_text → head_read ws text ≡ head_run head_start ws (text ++ (10 ∷ []))
unfolding head_read
head_short ws text h = rw (le-ltb max_text (length text) h)

pub rows_short : (d w : ℕ) (rows text : List ℕ) (at : ℕ) → w ≤ max_width → length text ≤ max_text
    → rows_read d w rows text at ≡ scan_run d w scan_start rows (drop at (text ++ (10 ∷ [])))
unfolding rows_read
rows_short d w rows text at g h = rw (le-ltb max_width w g, le-ltb max_text (length text) h)

-- ---- the rows: the machine behind the text's last line break refuses, or is between words
module _ (q : Layout) (rows text : List ℕ) (at : ℕ) (s : Scan) (left : List ℕ) where
  abbrev Scanned : Type 0
  Scanned = scan_run q.depth q.width scan_start rows (drop at (text ++ (10 ∷ []))) ≡ record { state = scan_of s; rows = left }

  pub rows_refused : (r : Reason) (m v : ℕ) → Scanned → s.kind ≡ Refused r m v
      → NoTable s.line (reason_number r) ≡ table_of q (scan_run q.depth q.width scan_start rows (drop at (text ++ (10 ∷ []))))
  unfolding table_of
  rows_refused r m v h k = rw (h, k, reason_not_0 r)

  pub rows_given : Scanned → ((r : Reason) (m v : ℕ) → s.kind ≢ Refused r m v)
      → IsTable (record { layout = q; rows = take (q.depth * q.width) left }) ≡ table_of q (scan_run q.depth q.width scan_start rows (drop at (text ++ (10 ∷ []))))
  unfolding table_of
  rows_given h n =
      let k = sym (ap (λ (x : ScanEnd). is_closed x.state.kind) h) ∙ text_closed q.depth q.width rows text at in rw (h, gap_where_closed s.kind k n)

-- ---- choices
pub layout_refused : (q : Layout) (text : List ℕ) → bad_layout q ≡ true → layout_table q text ≡ NoTable 1 10
unfolding layout_table
layout_refused q text e = rw e

module _ (e : HeadEnd) (n : ℕ) (i : n ≡ head_number e.state) where
  pub head_refused : n ≢ 0 → NoTable 1 n ≡ head_table e
  unfolding head_table
  head_refused h = rw (← i, ne_eqb n 0 h)

  pub head_layout : n ≡ 0 → layout_table (layout_read e.words e.state.count) e.rest ≡ head_table e
  unfolding head_table
  head_layout h = rw (← i, eq-eqb n 0 h)

count_by : (t s : Bool) → ◌≡◌ {A = ℕ} 0 (when t then (when s then 9 else 0) else 9) → s ≡ false
count_by true true e = absurd (omega arith)
count_by true false e = refl
count_by false s e = absurd (omega arith)

-- an accepted header has no more words than fit
pub count_small : (e : HeadEnd) (n : ℕ) → n ≡ head_number e.state → n ≡ 0 → e.state.count ≤ 261
unfolding head_number
count_small e n i h = ltb-false 261 e.state.count (count_by (eqb e.state.kind 3) (ltb 261 e.state.count) (sym h ∙ i))

-- ---- the layout by the numbers and entries that were read
pub layout_same : (p : Params) (es ws : List ℕ) (count : ℕ) → p ≡ params_read ws count → es ≡ entries_read ws count → layout_by p es ≡ layout_read ws count
unfolding layout_read
layout_same p es ws count e f = rw (e, f)

pub width_read : (p : Params) (ws : List ℕ) (count : ℕ) → p ≡ params_read ws count → p.width ≡ get_or ws 1 0
width_read p ws count e = ap (λ (x : Params). x.width) e

pub wide_refused : (e : HeadEnd) (n : ℕ) (i : n ≡ head_number e.state) (p : Params) → n ≡ 0 → p ≡ params_read e.words e.state.count → max_width < p.width
    → NoTable 1 10 ≡ head_table e
wide_refused e n i p h k w =
    let q = layout_read e.words e.state.count in
    let s : layout_by p (entries_read e.words e.state.count) ≡ q = layout_same p _ e.words e.state.count k refl in
    sym (layout_refused q e.rest (sym (ap bad_layout s) ∙ wide_bad (layout_by p (entries_read e.words e.state.count)) w)) ∙ head_layout e n i h

pub good_read : (e : HeadEnd) (n : ℕ) (i : n ≡ head_number e.state) (p : Params) (es : List ℕ) → n ≡ 0 → p ≡ params_read e.words e.state.count
    → es ≡ entries_read e.words e.state.count → layout_table (layout_by p es) e.rest ≡ head_table e
good_read e n i p es h k f = ap (λ (q : Layout). layout_table q e.rest) (layout_same p es e.words e.state.count k f) ∙ head_layout e n i h
