-- What is printed of rows reads back: the machine that reads rows leaves the same trits.
use mathlib.Core.Path.{◌≡◌, refl, sym, ap, ◌∙◌, subst}
use mathlib.Core.Logic.{◌⊎◌, ◌≢◌, inl, inr, ⊎_elim}
use mathlib.Core.Bool.{true, false}
use mathlib.Core.List.{List, [], ◌∷◌, ◌++◌}
use Prim.Native.Nat.{ℕ, zero, suc, ◌+◌, ◌-◌, ◌*◌, ◌≤◌, ◌<◌}
use native.Mathlib.Nat.{suc-mul, mul-le-mul_right, add-zero, zero-mul, mul-zero}
use native.Mathlib.Numerals.{add-one}
use native.Mathlib.Omega.{arith}
use lib.ListN.{length, take, get_or, set, length-set}
use lib.Seq.{length-take-le, ext_get_or, get_or-set_same, get_or-set_other, get_or-take}
use lib.Dec.{eqb, ltb}
use borrow.Author.Tests.{lt-ltb, ne_eqb}
use Rattle.lists.proofs.Choice.{cases_le}
use Rattle.rules.specs.Limits.{trit_x}
use Rattle.table_text.specs.Scan.{Scan}
use Rattle.table_text.specs.Bytes.{bump, is_blank, is_end, trit_of}
use Rattle.table_text.specs.Scan.{scan_as, word_end, ended, between, left_of, place_of, scan_trit, scan_word, scan_plain, scan_step_of, is_stored, scan_stored, scan_run}
use Rattle.table_print.specs.Rows.{char_of, bits_text, rows_from}

-- ---- a character
-- a trit's character is no end of a word, and reads as the trit
three : (P : ℕ → Type 0) (t : ℕ) → t ≤ 2 → P 0 → P 1 → P 2 → P t
three P zero h a b c = a
three P (suc zero) h a b c = b
three P (suc (suc zero)) h a b c = c
three P (suc (suc (suc t))) h a b c = absurd (omega arith)

char_trit : (t : ℕ) → t ≤ 2 → trit_of (char_of t) ≡ t
unfolding trit_of char_of
char_trit t h = three (λ (n : ℕ). trit_of (char_of n) ≡ n) t h refl refl refl

char_end : (t : ℕ) → t ≤ 2 → is_end (char_of t) ≡ false
unfolding is_end is_blank char_of
char_end t h = three (λ (n : ℕ). is_end (char_of n) ≡ false) t h refl refl refl

module _ (depth width : ℕ) where
  -- a trit at the start of a word, and one within
  module _ (line row t : ℕ) (h : t ≤ 2) (below : row < depth) (rows after : List ℕ) where
    start_step : (k : ℕ) → width ≡ suc k
        → scan_run depth width (scan_as 0 line row 0 0) rows (char_of t ∷ after) ≡ scan_run depth width (scan_as 1 line row k 0) (set rows (row * width + k) t) after
    unfolding scan_run scan_step_of scan_plain scan_word scan_trit left_of place_of is_stored scan_stored
    start_step k w =
        let e : width - 1 ≡ k = omega arith in
        let p : ltb 0 width ≡ true = lt-ltb 0 width (omega arith) in
        let z : eqb width 0 ≡ false = ne_eqb width 0 (λ q. absurd (omega arith)) in
        let d : ltb t 3 ≡ true = lt-ltb t 3 (omega arith) in
        rw (char_end t h, char_trit t h, d, lt-ltb row depth below, z, p, e)

    next_step : (k : ℕ)
        → scan_run depth width (scan_as 1 line row (suc k) 0) rows (char_of t ∷ after) ≡ scan_run depth width (scan_as 1 line row k 0) (set rows (row * width + k) t) after
    unfolding scan_run scan_step_of scan_plain scan_word scan_trit left_of place_of is_stored scan_stored
    next_step k =
        let e : suc k - 1 ≡ k = omega arith in
        let p : ltb 0 (suc k) ≡ true = lt-ltb 0 (suc k) (omega arith) in
        let z : eqb (suc k) 0 ≡ false = ne_eqb (suc k) 0 (λ q. absurd (omega arith)) in
        let d : ltb t 3 ≡ true = lt-ltb t 3 (omega arith) in
        rw (char_end t h, char_trit t h, d, lt-ltb row depth below, z, p, e)

  -- a line break after a word, and one between words
  word_break : (line row : ℕ) (rows after : List ℕ)
      → scan_run depth width (scan_as 1 line row 0 0) rows (10 ∷ after) ≡ scan_run depth width (scan_as 0 (bump line) (bump row) 0 0) rows after
  unfolding scan_run scan_step_of scan_plain is_end is_blank ended word_end between is_stored scan_stored trit_of
  word_break line row rows after = refl

  empty_break : (line row : ℕ) (rows after : List ℕ)
      → scan_run depth width (scan_as 0 line row 0 0) rows (10 ∷ after) ≡ scan_run depth width (scan_as 0 (bump line) row 0 0) rows after
  unfolding scan_run scan_step_of scan_plain is_end is_blank ended between is_stored scan_stored trit_of
  empty_break line row rows after = refl

-- the line number after so many lines
abbrev lines_after : ℕ → ℕ → ℕ
lines_after zero line = line
lines_after (suc n) line = lines_after n (bump line)

-- ---- a row of at least one bit
module _ (rows : List ℕ) (good : (i : ℕ) → get_or rows i trit_x ≤ 2) where
  -- the trits from a place on, stored in the order of the text
  abbrev filled : ℕ → ℕ → List ℕ → List ℕ
  filled at zero l = l
  filled at (suc k) l = filled at k (set l (at + k) (get_or rows (at + k) trit_x))

  length_filled : (at k : ℕ) (l : List ℕ) → length (filled at k l) ≡ length l
  length_filled at zero l = refl
  length_filled at (suc k) l = length_filled at k (set l (at + k) (get_or rows (at + k) trit_x)) ∙ length-set l (at + k) (get_or rows (at + k) trit_x)

  filled_out : (at k : ℕ) (l : List ℕ) (i d : ℕ) → (i < at) ⊎ (at + k ≤ i) → get_or (filled at k l) i d ≡ get_or l i d
  filled_out at zero l i d h = refl
  filled_out at (suc k) l i d h =
      let o : i ≢ at + k = λ e. ⊎_elim (λ w. absurd (omega arith)) (λ w. absurd (omega arith)) h in
      filled_out at k (set l (at + k) (get_or rows (at + k) trit_x)) i d (⊎_elim (λ w. inl w) (λ w. inr (omega arith)) h)
      ∙ get_or-set_other l (at + k) i (get_or rows (at + k) trit_x) d o

  filled_in : (at k : ℕ) (l : List ℕ) (i d : ℕ) → at ≤ i → i < at + k → at + k ≤ length l → get_or (filled at k l) i d ≡ get_or rows i trit_x
  filled_in at zero l i d a b h = absurd (omega arith)
  filled_in at (suc k) l i d a b h =
      let m = set l (at + k) (get_or rows (at + k) trit_x) in
      cases_le (at + k) i
      (λ g.
      let e : i ≡ at + k = omega arith in
      filled_out at k m i d (inr g) ∙ ap (λ (j : ℕ). get_or m j d) e ∙ get_or-set_same l (at + k) (get_or rows (at + k) trit_x) d (omega arith) ∙ ap (λ (j : ℕ). get_or rows j trit_x) (sym e))
      (λ g. filled_in at k m i d a g (omega (arith, length-set l (at + k) (get_or rows (at + k) trit_x))))

  -- ---- the machine over the trits of a row, and over its line
  module _ (depth width : ℕ) where
    bits_run : (line row k : ℕ) (l after : List ℕ) → row < depth
        → scan_run depth width (scan_as 1 line row k 0) l (bits_text rows (row * width) k after) ≡ scan_run depth width (scan_as 1 line row 0 0) (filled (row * width) k l) after
    unfolding bits_text
    bits_run line row zero l after h = refl
    bits_run line row (suc k) l after h =
        let t = get_or rows (row * width + k) trit_x in
        next_step depth width line row t (good (row * width + k)) h l (bits_text rows (row * width) k after) k
        ∙ bits_run line row k (set l (row * width + k) t) after h

    row_run : (line row k : ℕ) (l after : List ℕ) → width ≡ suc k → row < depth
        → scan_run depth width (scan_as 0 line row 0 0) l (bits_text rows (row * width) (suc k) after) ≡ scan_run depth width (scan_as 1 line row 0 0) (filled (row * width) (suc k) l) after
    unfolding bits_text
    row_run line row k l after w h =
        let t = get_or rows (row * width + k) trit_x in
        start_step depth width line row t (good (row * width + k)) h l (bits_text rows (row * width) k after) k w
        ∙ bits_run line row k (set l (row * width + k) t) after h

    -- the rows from r on
    abbrev all_filled : ℕ → ℕ → List ℕ → List ℕ
    all_filled r zero l = l
    all_filled r (suc n) l = all_filled (suc r) n (filled (r * width) width l)

    length_all : (r n : ℕ) (l : List ℕ) → length (all_filled r n l) ≡ length l
    length_all r zero l = refl
    length_all r (suc n) l = length_all (suc r) n (filled (r * width) width l) ∙ length_filled (r * width) width l

    bump_row : (r : ℕ) → r < 4194304 → bump r ≡ suc r
    bump_row r h = rw (lt-ltb r 4194304 h, add-one)

    one_row : (line row k : ℕ) (l after : List ℕ) → width ≡ suc k → row < depth → depth ≤ 32768
        → scan_run depth width (scan_as 0 line row 0 0) l (bits_text rows (row * width) width (10 ∷ after)) ≡ scan_run depth width (scan_as 0 (bump line) (suc row) 0 0) (filled (row * width) width l) after
    one_row line row k l after w h d =
        ap (λ (n : ℕ). scan_run depth width (scan_as 0 line row 0 0) l (bits_text rows (row * width) n (10 ∷ after))) w
        ∙ row_run line row k l (10 ∷ after) w h
        ∙ ap (λ (n : ℕ). scan_run depth width (scan_as 1 line row 0 0) (filled (row * width) n l) (10 ∷ after)) (sym w)
        ∙ word_break depth width line row (filled (row * width) width l) after
        ∙ ap (λ (n : ℕ). scan_run depth width (scan_as 0 (bump line) n 0 0) (filled (row * width) width l) after) (bump_row row (omega arith))

    rows_run : (n line row k : ℕ) (l after : List ℕ) → width ≡ suc k → row + n ≤ depth → depth ≤ 32768
        → scan_run depth width (scan_as 0 line row 0 0) l (rows_from width rows row n after) ≡ scan_run depth width (scan_as 0 (lines_after n line) (row + n) 0 0) (all_filled row n l) after
    unfolding rows_from
    rows_run zero line row k l after w h d = ap (λ (m : ℕ). scan_run depth width (scan_as 0 line m 0 0) l after) (sym (add-zero row))
    rows_run (suc n) line row k l after w h d =
        let e : suc row + n ≡ row + suc n = omega arith in
        one_row line row k l (rows_from width rows (suc row) n after) w (omega arith) d
        ∙ rows_run n (bump line) (suc row) k (filled (row * width) width l) after w (omega arith) d
        ∙ ap (λ (m : ℕ). scan_run depth width (scan_as 0 (lines_after n (bump line)) m 0 0) (all_filled (suc row) n (filled (row * width) width l)) after) e

    -- ---- what is stored
    all_in : (n r : ℕ) (l : List ℕ) (i : ℕ) → (r + n) * width ≤ length l → ((j : ℕ) → j < r * width → get_or l j trit_x ≡ get_or rows j trit_x)
        → i < (r + n) * width → get_or (all_filled r n l) i trit_x ≡ get_or rows i trit_x
    all_in zero r l i h before b = before i (subst (λ (m : ℕ). i < m * width) (add-zero r) b)
    all_in (suc n) r l i h before b =
        let e : suc r + n ≡ r + suc n = omega arith in
        let f : suc r * width ≤ (suc r + n) * width = mul-le-mul_right width (omega arith) in
        let g : (suc r + n) * width ≤ length l = subst (λ (m : ℕ). m * width ≤ length l) (sym e) h in
        let m = filled (r * width) width l in
        all_in n (suc r) m i (omega (arith, length_filled (r * width) width l))
        (λ j c.
        cases_le (r * width) j
        (λ a. filled_in (r * width) width l j trit_x a (omega (arith, suc-mul r width)) (omega (arith, suc-mul r width)))
        (λ a. filled_out (r * width) width l j trit_x (inl a) ∙ before j a))
        (subst (λ (m : ℕ). i < m * width) (sym e) b)

-- ---- rows of no bits: blank lines
blank-run : (depth : ℕ) (rows : List ℕ) (n line row r : ℕ) (l after : List ℕ)
    → scan_run depth 0 (scan_as 0 line r 0 0) l (rows_from 0 rows row n after) ≡ scan_run depth 0 (scan_as 0 (lines_after n line) r 0 0) l after
unfolding rows_from bits_text
blank-run depth rows zero line row r l after = refl
blank-run depth rows (suc n) line row r l after =
    empty_break depth 0 line r l (rows_from 0 rows (suc row) n after) ∙ blank-run depth rows n (bump line) (suc row) r l after

-- ---- what follows the text
pub bits_append : (rows : List ℕ) (at k : ℕ) (a b : List ℕ) → bits_text rows at k a ++ b ≡ bits_text rows at k (a ++ b)
unfolding bits_text
bits_append rows at zero a b = refl
bits_append rows at (suc k) a b = ap (λ (l : List ℕ). char_of (get_or rows (at + k) trit_x) ∷ l) (bits_append rows at k a b)

pub rows_append : (width : ℕ) (rows : List ℕ) (r n : ℕ) (a b : List ℕ) → rows_from width rows r n a ++ b ≡ rows_from width rows r n (a ++ b)
unfolding rows_from
rows_append width rows r zero a b = refl
rows_append width rows r (suc n) a b =
    bits_append rows (r * width) width (10 ∷ rows_from width rows (suc r) n a) b
    ∙ ap (λ (l : List ℕ). bits_text rows (r * width) width (10 ∷ l)) (rows_append width rows (suc r) n a b)

-- ---- rows that are printed and read again
run_nil : (depth width : ℕ) (s : Scan) (l : List ℕ) → scan_run depth width s l [] ≡ record { state = s; rows = l }
unfolding scan_run
run_nil depth width s l = refl

last_break : (depth width line row : ℕ) (l : List ℕ) → scan_run depth width (scan_as 0 line row 0 0) l (10 ∷ []) ≡ record { state = scan_as 0 (bump line) row 0 0; rows = l }
last_break depth width line row l = empty_break depth width line row l [] ∙ run_nil depth width (scan_as 0 (bump line) row 0 0) l

pub record RowsBack (depth width : ℕ) (rows room : List ℕ) (text : List ℕ) : Type 0 where
  pub line : ℕ
  pub row : ℕ
  pub left : List ℕ
  pub reads : scan_run depth width (scan_as 0 2 0 0 0) room text ≡ record { state = scan_as 0 line row 0 0; rows = left }
  pub same : take (depth * width) left ≡ rows

empty_list : (l : List ℕ) → length l ≡ 0 → [] ≡ l
empty_list [] e = refl
empty_list (x ∷ l) e = absurd (omega arith)

module _ (depth width : ℕ) (rows room : List ℕ) (good : (i : ℕ) → get_or rows i trit_x ≤ 2) (d : depth ≤ 32768) (len : length rows ≡ depth * width) (fits : depth * width ≤ length room) where
  wide_same : take (depth * width) (all_filled rows good depth width 0 depth room) ≡ rows
  wide_same =
      let l = all_filled rows good depth width 0 depth room in
      let k = length_all rows good depth width 0 depth room in
      let z : 0 + depth ≡ depth = omega arith in
      let m : length (take (depth * width) l) ≡ depth * width = length-take-le (depth * width) l (omega arith) in
      ext_get_or trit_x (take (depth * width) l) rows (m ∙ sym len)
      (λ i h.
      get_or-take (depth * width) l i trit_x (omega arith)
      ∙ all_in rows good depth width depth 0 room i (subst (λ (n : ℕ). n * width ≤ length room) (sym z) fits) (λ j c. absurd (omega (arith, zero-mul width)))
      (subst (λ (n : ℕ). i < n * width) (sym z) (omega arith)))

  wide_back : (k : ℕ) → width ≡ suc k → RowsBack depth width rows room (rows_from width rows 0 depth (10 ∷ []))
  wide_back k w = record {
    line = bump (lines_after depth 2);
    row = 0 + depth;
    left = all_filled rows good depth width 0 depth room;
    reads = rows_run rows good depth width depth 2 0 k room (10 ∷ []) w (omega arith) d ∙ last_break depth width (lines_after depth 2) (0 + depth) (all_filled rows good depth width 0 depth room);
    same = wide_same;
  }

  none_back : width ≡ 0 → RowsBack depth 0 rows room (rows_from 0 rows 0 depth (10 ∷ []))
  none_back w = record {
    line = bump (lines_after depth 2);
    row = 0;
    left = room;
    reads = blank-run depth rows depth 2 0 0 room (10 ∷ []) ∙ last_break depth 0 (lines_after depth 2) 0 room;
    same = ap (λ (n : ℕ). take n room) (mul-zero depth) ∙ empty_list rows (len ∙ ap (λ (n : ℕ). depth * n) w ∙ mul-zero depth);
  }

-- the text of rows of trits leaves the machine between words, and the same rows
pub rows_back : (depth width : ℕ) (rows room : List ℕ) → ((i : ℕ) → get_or rows i trit_x ≤ 2) → depth ≤ 32768 → length rows ≡ depth * width → depth * width ≤ length room
    → RowsBack depth width rows room (rows_from width rows 0 depth (10 ∷ []))
rows_back depth zero rows room good d len fits = none_back depth 0 rows room good d len fits refl
rows_back depth (suc k) rows room good d len fits = wide_back depth (suc k) rows room good d len fits k refl
