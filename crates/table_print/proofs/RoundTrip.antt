-- A table's text gives the table: print, then parse.
use mathlib.Core.Path.{◌≡◌, refl, sym, ap, ◌∙◌}
use mathlib.Core.Logic.{◌≢◌}
use mathlib.Core.Bool.{Bool, true, false}
use mathlib.Core.List.{List, [], ◌∷◌, ◌++◌}
use Prim.Native.Nat.{ℕ, zero, suc, ◌+◌, ◌-◌, ◌*◌, ◌/◌, ◌%◌, ◌≤◌, ◌<◌}
use native.Mathlib.Omega.{arith}
use lib.ListN.{length, take, get_or, replicate, length-append, length-replicate}
use lib.Seq.{sets, get_or-take, get_or-append-add, take_at, take_all}
use lib.Dec.{eqb, leb}
use borrow.Author.Tests.{leb-true, le-ltb, ltb-false, eq-eqb, ne_eqb, eqb-true, eqb-false}
use Rattle.lists.specs.Choice.{when◌then◌else◌}
use Rattle.lists.specs.Lists.{part, up_from, all}
use Rattle.lists.proofs.Choice.{and_true, cases_le}
use Rattle.lists.proofs.Store.{part_sets}
use Rattle.lists.proofs.Parts.{same_middle, same_front}
use Rattle.rules.specs.Limits.{trit_x, max_bits, max_mask, None}
use Rattle.rules.specs.Logic.{are_trits}
use Rattle.rules.specs.Geometry.{Layout, row_len_of}
use Rattle.rules.specs.Conditions.{times, bad_layout}
use Rattle.rules.specs.Lister.{digits_from}
use Rattle.rules.proofs.GoodLayouts.{good, good_small, named}
use Rattle.rules.proofs.Named.{once}
use Rattle.table_text.specs.Bytes.{max_text}
use Rattle.table_text.specs.Head.{head_as, HeadEnd, head_run}
use Rattle.table_text.specs.Scan.{scan_as, scan_run}
use Rattle.table_read.specs.Table.{Table, IsTable, max_words, entries_read, layout_read, head_number, table_of, rows_table, layout_table, head_table, parse_table}
use Rattle.table_print.specs.Rows.{rows_from}
use Rattle.table_print.specs.Header.{number_text, entry_text, more_entries, entries_text, header_text, print_table}
use Rattle.table_print.proofs.Back.{rows_append, RowsBack, rows_back}
use Rattle.table_print.proofs.Numbers.{last_step, more-step, words_of, InWords, header_run}

-- ---- what follows the text
digits_none : (n : ℕ) (a : List ℕ) → digits_from 0 n a ≡ a
unfolding digits_from
digits_none n a = refl

digits_append : (m n : ℕ) (a b : List ℕ) → digits_from m n a ++ b ≡ digits_from m n (a ++ b)
digits_append zero n a b = ap (λ (l : List ℕ). l ++ b) (digits_none n a) ∙ sym (digits_none n (a ++ b))
digits_append (suc m) n a b =
    cases_le 10 n
    (λ h.
    ap (λ (l : List ℕ). l ++ b) (more-step m n a h) ∙ digits_append m (n / 10) ((48 + n % 10) ∷ a) b ∙ sym (more-step m n (a ++ b) h))
    (λ h. ap (λ (l : List ℕ). l ++ b) (last_step m n a h) ∙ sym (last_step m n (a ++ b) h))

number_append : (n : ℕ) (a b : List ℕ) → number_text n a ++ b ≡ number_text n (a ++ b)
unfolding number_text
number_append n a b = digits_append 10 n a b

entry_by : (t : Bool) (e : ℕ) (a b : List ℕ) → (when t then 45 ∷ a else number_text e a) ++ b ≡ (when t then 45 ∷ (a ++ b) else number_text e (a ++ b))
entry_by true e a b = refl
entry_by false e a b = number_append e a b

entry_append : (e : ℕ) (a b : List ℕ) → entry_text e a ++ b ≡ entry_text e (a ++ b)
unfolding entry_text
entry_append e a b = entry_by (eqb e None) e a b

more_append : (es a b : List ℕ) → more_entries es a ++ b ≡ more_entries es (a ++ b)
unfolding more_entries
more_append [] a b = refl
more_append (e ∷ es) a b =
    ap (λ (l : List ℕ). 44 ∷ l) (entry_append e (more_entries es a) b ∙ ap (entry_text e) (more_append es a b))

entries_append : (es a b : List ℕ) → entries_text es a ++ b ≡ entries_text es (a ++ b)
unfolding entries_text
entries_append [] a b = refl
entries_append (e ∷ es) a b = entry_append e (more_entries es a) b ∙ ap (entry_text e) (more_append es a b)

header_append : (q : Layout) (a b : List ℕ) → header_text q a ++ b ≡ header_text q (a ++ b)
unfolding header_text
header_append q a b =
    number_append q.depth _ b
    ∙ ap (λ (l : List ℕ). number_text q.depth (32 ∷ l))
    (number_append q.width _ b
    ∙ ap (λ (l : List ℕ). number_text q.width (32 ∷ l))
    (entries_append q.entries _ b
    ∙ ap (λ (l : List ℕ). entries_text q.entries (32 ∷ l))
    (number_append q.soft_mask _ b
    ∙ ap (λ (l : List ℕ). number_text q.soft_mask (32 ∷ l))
    (number_append q.hard _ b ∙ ap (λ (l : List ℕ). number_text q.hard (32 ∷ l)) (number_append q.unit _ b)))))

-- ---- the layout that is read
module _ (q : Layout) (len : length q.entries ≤ 256) where
  abbrev room : List ℕ
  room = replicate max_words 0

  abbrev tail : List ℕ
  tail = q.soft_mask ∷ q.hard ∷ q.unit ∷ []

  abbrev front : List ℕ
  front = q.depth ∷ q.width ∷ q.entries

  abbrev stored : List ℕ
  stored = sets room 0 (words_of q)

  words_long : length (words_of q) ≡ 5 + length q.entries
  words_long = omega (arith, length-append q.entries tail)

  words_front : take (length (words_of q)) stored ≡ words_of q
  words_front = part_sets room 0 (words_of q) (omega (arith, words_long, length-replicate {A = ℕ} max_words 0))

  word_at_lem : (i : ℕ) → i < 5 + length q.entries → get_or stored i 0 ≡ get_or (words_of q) i 0
  word_at_lem i h = sym (get_or-take (length (words_of q)) stored i 0 (omega (arith, words_long))) ∙ ap (λ (l : List ℕ). get_or l i 0) words_front

  tail_at : (i j : ℕ) → j ≡ length front + i → i < 3 → get_or stored j 0 ≡ get_or tail i 0
  tail_at i j e h = word_at_lem j (omega arith) ∙ ap (λ (k : ℕ). get_or (front ++ tail) k 0) e ∙ get_or-append-add front tail i 0

  abbrev count : ℕ
  count = suc (suc (suc (2 + length q.entries)))

  entries_same : (q.entries ≡ [] → q.width ≡ 0) → entries_read stored count ≡ q.entries
  unfolding entries_read
  entries_same none = on q.entries refl
    where
      on : (es : List ℕ) → q.entries ≡ es → (when eqb count 5 then up_from 0 (get_or stored 1 0) else part 2 (count - 5) stored) ≡ q.entries
      on [] e =
          let c : count ≡ 5 = omega (arith, ap length e) in
          let w : get_or stored 1 0 ≡ 0 = word_at_lem 1 (omega arith) ∙ none e in
          rw (eq-eqb count 5 c, w) (sym e)
      on (x ∷ es) e =
          let c : count ≢ 5 = λ z. absurd (omega (arith, ap length e)) in
          let n : count - 5 ≡ length q.entries = omega arith in
          let l : length (words_of q) ≡ (2 + length q.entries) + 3 = omega (arith, words_long) in
          let s : take (length (words_of q)) stored ≡ take (length (words_of q)) (words_of q) = words_front ∙ sym (take_all (length (words_of q)) (words_of q) (omega arith)) in
          rw (ne_eqb count 5 c, n)
          (same_middle 2 (length q.entries) (words_of q) stored (same_front (2 + length q.entries) 3 (words_of q) stored (rw (← l) s))
          ∙ take_at q.entries tail (length q.entries) refl)

  pub layout_back : (q.entries ≡ [] → q.width ≡ 0) → layout_read stored count ≡ q
  unfolding layout_read
  layout_back none =
      let d : get_or stored 0 0 ≡ q.depth = word_at_lem 0 (omega arith) in
      let w : get_or stored 1 0 ≡ q.width = word_at_lem 1 (omega arith) in
      let m : get_or stored (count - 3) 0 ≡ q.soft_mask = tail_at 0 (count - 3) (omega arith) (omega arith) in
      let h : get_or stored (count - 2) 0 ≡ q.hard = tail_at 1 (count - 2) (omega arith) (omega arith) in
      let u : get_or stored (count - 1) 0 ≡ q.unit = tail_at 2 (count - 1) (omega arith) (omega arith) in
      let es = entries_same none in
      λ i. record { depth = d i; width = w i; entries = es i; soft_mask = m i; hard = h i; unit = u i }

-- ---- what a good table has
all_each : (f : ℕ → Bool) (l : List ℕ) (i d : ℕ) → all f l ≡ true → f d ≡ true → f (get_or l i d) ≡ true
all_each f [] i d e g = g
all_each f (x ∷ l) zero d e g = (and_true (f x) (all f l) e).0
all_each f (x ∷ l) (suc i) d e g = all_each f l i d (and_true (f x) (all f l) e).1 g

trits_each : (rows : List ℕ) → are_trits rows ≡ true → (i : ℕ) → get_or rows i trit_x ≤ 2
unfolding are_trits
trits_each rows e i = leb-true (get_or rows i trit_x) 2 (all_each (λ t. leb t trit_x) rows i trit_x e refl)

-- an entry is a word
entry-word : (width e : ℕ) → width ≤ 128 → (e ≢ None → e < width) → e < 4294967296
entry-word width e h f = on (eqb e None) refl
  where
    on : (t : Bool) → eqb e None ≡ t → e < 4294967296
    on true q = omega (arith, eqb-true e None q)
    on false q = omega (arith, f (eqb-false e None q))

get_d_within : (l : List ℕ) (i d : ℕ) → (i < length l → get_or l i d < 4294967296) → get_or l i 0 < 4294967296
get_d_within [] i d f = omega arith
get_d_within (x ∷ l) zero d f = f (omega arith)
get_d_within (x ∷ l) (suc i) d f = get_d_within l i d (λ h. f (omega arith))

no_times : (b : ℕ) → times b [] ≡ 0
unfolding times
no_times b = refl

module _ (q : Layout) (g : bad_layout q ≡ false) where
  none_named : q.entries ≡ [] → q.width ≡ 0
  none_named e =
      cases_le q.width 0 (λ h. omega arith)
      (λ h. let o : times 0 q.entries ≡ 1 = once q.width q.entries (good q g).entries 0 h in absurd (omega (arith, sym (ap (times 0) e) ∙ o, no_times 0)))

  in_words : InWords q
  unfolding row_len_of
  in_words =
      let s = good_small q g in
      record {
        depth = omega (arith, s.depth_max);
        width = omega (arith, s.width_max);
        entries = λ i. get_d_within q.entries i None (λ h. entry-word q.width (get_or q.entries i None) s.width_max (named q.width q.entries (good q g).entries i h));
        mask = omega (arith, ltb-false max_mask q.soft_mask (good q g).mask);
        hard = omega (arith, s.hard_max);
        unit = omega (arith, s.unit_max);
        len = s.len_max;
      }

-- ---- print, then parse
-- a table that a text can hold
pub record Printable (t : Table) : Type 0 where
  pub good : bad_layout t.layout ≡ false
  pub sized : length t.rows ≡ t.layout.depth * t.layout.width
  pub trits : are_trits t.rows ≡ true
  pub short : length (print_table t) ≤ max_text

head_by : (e : HeadEnd) (q : Layout) → head_number e.state ≡ 0 → layout_read e.words e.state.count ≡ q → head_table e ≡ layout_table q e.rest
unfolding head_table
head_by e q n l = rw (eq-eqb (head_number e.state) 0 n, l)

number_none : (c : ℕ) → c ≤ 261 → head_number (head_as 3 6 c 0) ≡ 0
unfolding head_number
number_none c h = rw (le-ltb 261 c h)

layout_by_lem : (q : Layout) (text : List ℕ) → bad_layout q ≡ false → layout_table q text ≡ rows_table q text
unfolding layout_table
layout_by_lem q text g = rw g

table_by : (q : Layout) (text left : List ℕ) (line row : ℕ)
    → scan_run q.depth q.width (scan_as 0 2 0 0 0) (replicate max_bits trit_x) text ≡ record { state = scan_as 0 line row 0 0; rows = left }
    → rows_table q text ≡ IsTable (record { layout = q; rows = take (q.depth * q.width) left })
unfolding rows_table table_of
table_by q text left line row e = ap (table_of q) e

parse_short : (text : List ℕ) → length text ≤ max_text → parse_table text ≡ head_table (head_run (head_as 0 0 0 0) (replicate max_words 0) (text ++ (10 ∷ [])))
unfolding parse_table
parse_short text h = rw (le-ltb max_text (length text) h)

module _ (t : Table) (p : Printable t) where
  abbrev q : Layout
  q = t.layout

  abbrev lines : List ℕ
  lines = rows_from q.width t.rows 0 q.depth (10 ∷ [])

  text_is : print_table t ++ (10 ∷ []) ≡ header_text q lines
  unfolding print_table
  text_is = header_append q (rows_from q.width t.rows 0 q.depth []) (10 ∷ []) ∙ ap (header_text q) (rows_append q.width t.rows 0 q.depth [] (10 ∷ []))

  back : RowsBack q.depth q.width t.rows (replicate max_bits trit_x) lines
  back =
      let s = good_small q p.good in
      rows_back q.depth q.width t.rows (replicate max_bits trit_x) (trits_each t.rows p.trits) s.depth_max p.sized (omega (arith, s.bits_max, length-replicate {A = ℕ} max_bits trit_x))

  head_is : head_table (head_run (head_as 0 0 0 0) (replicate max_words 0) (header_text q lines)) ≡ layout_table q lines
  head_is =
      let w = in_words q p.good in
      ap head_table (header_run q w (replicate max_words 0) lines)
      ∙ head_by _ q (number_none _ (omega (arith, w.len))) (layout_back q w.len (none_named q p.good))

  rows_are : rows_table q lines ≡ IsTable t
  rows_are =
      table_by q lines back.left back.line back.row back.reads
      ∙ ap (λ (r : List ℕ). IsTable (record { layout = q; rows = r })) back.same

  -- the text of a table gives the table
  pub print_parse : parse_table (print_table t) ≡ IsTable t
  print_parse =
      parse_short (print_table t) p.short
      ∙ ap (λ (l : List ℕ). head_table (head_run (head_as 0 0 0 0) (replicate max_words 0) l)) text_is
      ∙ head_is
      ∙ layout_by_lem q lines p.good
      ∙ rows_are
