-- Behind a line break the machine of the rows is between words or refuses, and it never refuses a text as too long, which the machine of the header does.
use mathlib.Core.Path.{◌≡◌, refl}
use mathlib.Core.Logic.{◌≢◌}
use mathlib.Core.Bool.{Bool, true, false, ◌&&◌, ◌||◌}
use mathlib.Core.List.{List, [], ◌∷◌, ◌++◌}
use Prim.Native.Nat.{ℕ, zero, suc}
use lib.ListN.{drop}
use lib.Dec.{eqb, ltb, leb}
use borrow.Author.Tests.{ltb-true, lt-ltb}
use native.Mathlib.Omega.{arith}
use Rattle.lists.specs.Choice.{when◌then◌else◌}
use Rattle.table_text.specs.declared.reason.Reason.{Reason}
use Rattle.table_text.specs.declared.reason.Reason.TheVariants.{TextTooLong, BadHeader, BadLayout, BadByte, ShortWord, LongWord, RowPastDepth, Unread}
use Rattle.table_text.specs.declared.scan.Kind.{Kind}
use Rattle.table_text.specs.declared.scan.Kind.TheVariants.{Gap, Word, Number, Slash, Comment, At, Refused}
use Rattle.table_text.specs.Bytes.{is_blank, is_end, trit_of, hex_of}
use Rattle.table_text.specs.Scan.{Scan, scan_start, with_kind, word_end, number_end, ended, between, left_of, scan_hex, scan_comment, scan_slash, scan_trit, scan_word, scan_plain, scan_step_of, scan_stored, scan_run}
use Rattle.table_text.specs.View.{reason_number, scan_kind}

-- between words, or refused
abbrev pub is_closed : ℕ → Bool
is_closed kind = eqb kind 0 || ltb 7 kind

abbrev Closed : Scan → Type 0
Closed s = is_closed s.kind ≡ true

or_true : (b : Bool) → (b || true) ≡ true
or_true true = refl
or_true false = refl

pick : (P : Scan → Type 0) (t : Bool) (x y : Scan) → (t ≡ true → P x) → P y → P (when t then x else y)
pick P true x y f g = f refl
pick P false x y f g = g

module _ (depth width : ℕ) where
  abbrev Broken : Scan → Type 0
  Broken e = Closed (between e 10)

  word_broken : (s : Scan) → Broken (word_end s)
  unfolding word_end between
  word_broken s = pick Broken (eqb s.left 0) _ _ (λ _. refl) refl

  number_broken : (s : Scan) → Broken (number_end depth s)
  unfolding number_end between
  number_broken s = pick Broken (leb s.value depth) _ _ (λ _. refl) refl

  gap_broken : (s : Scan) → eqb s.kind 0 ≡ true → Broken s
  unfolding between
  gap_broken s e = rw e

  bad_broken : (s : Scan) → Broken (with_kind s 11)
  unfolding between
  bad_broken s = refl

  ended_broken : (s : Scan) → Broken (ended depth s)
  unfolding ended
  ended_broken s =
      pick Broken (eqb s.kind 0) _ _ (gap_broken s)
      (pick Broken (eqb s.kind 1) _ _ (λ _. word_broken s) (pick Broken (eqb s.kind 2) _ _ (λ _. number_broken s) (bad_broken s)))

  plain_closed : (s : Scan) → Closed (scan_plain depth width s 10)
  unfolding scan_plain is_end is_blank
  plain_closed s = ended_broken s

  comment_closed : (s : Scan) → Closed (scan_comment s 10)
  unfolding scan_comment
  comment_closed s = refl

  slash_closed : (s : Scan) → Closed (scan_slash s 10)
  unfolding scan_slash
  slash_closed s = refl

  refused_closed : (s : Scan) → ltb 8 s.kind ≡ true → Closed s
  refused_closed s e = rw (lt-ltb 7 s.kind (omega (arith, ltb-true 8 s.kind e))) (or_true (eqb s.kind 0))

  step_closed : (s : Scan) → Closed (scan_step_of depth width s 10)
  unfolding scan_step_of
  step_closed s =
      pick Closed (ltb 8 s.kind) _ _ (refused_closed s)
      (pick Closed (eqb s.kind 4) _ _ (λ _. comment_closed s) (pick Closed (eqb s.kind 3) _ _ (λ _. slash_closed s) (plain_closed s)))

  run_closed : (s : Scan) (rows text : List ℕ) → Closed (scan_run depth width s rows (text ++ (10 ∷ []))).state
  unfolding scan_run
  run_closed s rows [] = step_closed s
  run_closed s rows (b ∷ bs) = run_closed (scan_step_of depth width s b) (scan_stored depth width s b rows) bs

  -- from any place of a text on
  pub text_closed : (rows text : List ℕ) (from : ℕ) → Closed (scan_run depth width scan_start rows (drop from (text ++ (10 ∷ [])))).state
  unfolding scan_run
  text_closed rows text zero = run_closed scan_start rows text
  text_closed rows [] (suc zero) = refl
  text_closed rows [] (suc (suc n)) = refl
  text_closed rows (b ∷ bs) (suc n) = text_closed rows bs n

-- ---- no step refuses a text as too long
abbrev pub Reads : Scan → Type 0
Reads s = eqb s.kind 8 ≡ false

module _ (depth width : ℕ) where
  ended_reads : (s : Scan) → Reads s → Reads (ended depth s)
  unfolding ended word_end number_end
  ended_reads s e =
      pick Reads (eqb s.kind 0) _ _ (λ _. e)
      (pick Reads (eqb s.kind 1) _ _ (λ _. pick Reads (eqb s.left 0) _ _ (λ _. refl) refl)
      (pick Reads (eqb s.kind 2) _ _ (λ _. pick Reads (leb s.value depth) _ _ (λ _. refl) refl) refl))

  between_reads : (s : Scan) (b : ℕ) → Reads s → Reads (between s b)
  unfolding between
  between_reads s b e =
      pick Reads (eqb s.kind 0) _ _ (λ _. pick Reads (eqb b 10) _ _ (λ _. refl) (pick Reads (eqb b 47) _ _ (λ _. refl) e)) e

  word_reads : (s : Scan) (b : ℕ) → Reads s → Reads (scan_word depth width s b)
  unfolding scan_word scan_trit
  word_reads s b e =
      pick Reads (ltb (trit_of b) 3) _ _ (λ _. pick Reads (ltb s.row depth) _ _ (λ _. pick Reads (eqb (left_of width s) 0) _ _ (λ _. refl) refl) refl)
      (pick Reads (eqb s.kind 1 && eqb b 95) _ _ (λ _. e) (pick Reads (eqb s.kind 0 && eqb b 64) _ _ (λ _. refl) refl))

  hex_reads : (s : Scan) (b : ℕ) → Reads (scan_hex s b)
  unfolding scan_hex
  hex_reads s b = pick Reads (ltb (hex_of b) 16) _ _ (λ _. refl) refl

  plain_reads : (s : Scan) (b : ℕ) → Reads s → Reads (scan_plain depth width s b)
  unfolding scan_plain
  plain_reads s b e =
      pick Reads (is_end b) _ _ (λ _. between_reads (ended depth s) b (ended_reads s e)) (pick Reads (leb s.kind 1) _ _ (λ _. word_reads s b e) (hex_reads s b))

  comment_reads : (s : Scan) (b : ℕ) → Reads s → Reads (scan_comment s b)
  unfolding scan_comment
  comment_reads s b e = pick Reads (eqb b 10) _ _ (λ _. refl) e

  slash_reads : (s : Scan) (b : ℕ) → Reads (scan_slash s b)
  unfolding scan_slash
  slash_reads s b = pick Reads (eqb b 47) _ _ (λ _. refl) refl

  pub step_reads : (s : Scan) (b : ℕ) → Reads s → Reads (scan_step_of depth width s b)
  unfolding scan_step_of
  step_reads s b e =
      pick Reads (ltb 8 s.kind) _ _ (λ _. e)
      (pick Reads (eqb s.kind 4) _ _ (λ _. comment_reads s b e) (pick Reads (eqb s.kind 3) _ _ (λ _. slash_reads s b) (plain_reads s b e)))

-- ---- the machine's kind, where it is closed
pub reason_not_0 : (r : Reason) → eqb (reason_number r) 0 ≡ false
reason_not_0 TextTooLong = refl
reason_not_0 BadHeader = refl
reason_not_0 BadLayout = refl
reason_not_0 BadByte = refl
reason_not_0 ShortWord = refl
reason_not_0 LongWord = refl
reason_not_0 RowPastDepth = refl
reason_not_0 Unread = refl

pub gap_where_closed : (k : Kind) → is_closed (scan_kind k) ≡ true → ((r : Reason) (m v : ℕ) → k ≢ Refused r m v) → eqb (scan_kind k) 0 ≡ true
gap_where_closed Gap e n = refl
gap_where_closed (Word m) e n = cc
gap_where_closed (Number v) e n = cc
gap_where_closed Slash e n = cc
gap_where_closed Comment e n = cc
gap_where_closed At e n = cc
gap_where_closed (Refused r m v) e n = absurd (n r m v refl)
