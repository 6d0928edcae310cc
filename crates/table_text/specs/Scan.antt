-- The rows, as in `$readmemb` files: words of 0, 1, x and _, most significant bit first, `//` comments, and `@` with a row number in hex.
use Rattle.std.specs.Prelude.{ℕ, ◌+◌, ◌-◌, ◌*◌, Bool, ◌&&◌, List, [], ◌∷◌, ◌++◌, length, drop, set, eqb, ltb, leb}
use Rattle.lists.specs.Choice.{when◌then◌else◌}
use Rattle.rules.specs.Limits.{max_width}
use Rattle.table_text.specs.Bytes.{max_text, bump, more, low_word, is_end, trit_of, hex_of}

-- the machine that reads the rows: a kind, the line and the row in hand, the bits of a word that are still to come, and a row number; both are 0 where the
-- kind has none, and a refused machine keeps them
pub record Scan : Type 0 where
  pub kind : ℕ
  pub line : ℕ
  pub row : ℕ
  pub left : ℕ
  pub value : ℕ

-- kinds: 0 between words, 1 in a word, 2 in a row number, 3 after one slash, 4 in a comment, 5 after `@`, and from 9 on refused
abbrev pub scan_as : ℕ → ℕ → ℕ → ℕ → ℕ → Scan
scan_as kind line row left value = record { kind = kind; line = line; row = row; left = left; value = value }

abbrev pub scan_start : Scan
scan_start = scan_as 0 2 0 0 0

-- refused: 11 a byte that does not belong there, 12 a word that is too short, 13 one that is too long, 14 a row past the depth
abbrev pub with_kind : Scan → ℕ → Scan
with_kind s kind = scan_as kind s.line s.row s.left s.value

-- the machine and the rows at the end of a text
pub record ScanEnd : Type 0 where
  pub state : Scan
  pub rows : List ℕ

-- a word is at its end: no bits are to come
unfoldable pub word_end : Scan → Scan
word_end s = when eqb s.left 0 then scan_as 0 s.line (bump s.row) 0 0 else with_kind s 12

-- a row number is
unfoldable pub number_end : ℕ → Scan → Scan
number_end depth s = when leb s.value depth then scan_as 0 s.line (low_word s.value) 0 0 else with_kind s 14

-- a word or a row number is
unfoldable pub ended : ℕ → Scan → Scan
ended depth s =
    when eqb s.kind 0 then s
    else when eqb s.kind 1 then word_end s
    else when eqb s.kind 2 then number_end depth s
    else with_kind s 11

-- between words: a line break counts, a slash may start a comment
unfoldable pub between : Scan → ℕ → Scan
between e b =
    when eqb e.kind 0 then (when eqb b 10 then scan_as 0 (bump e.line) e.row 0 0 else when eqb b 47 then with_kind e 3 else e)
    else e

-- the bits still to come before a trit: a new word has all
unfoldable pub left_of : ℕ → Scan → ℕ
left_of width s = when eqb s.kind 0 then width else s.left

-- where the trit goes
unfoldable pub place_of : ℕ → Scan → ℕ
place_of width s = s.row * width + (left_of width s - 1)

-- a byte of a row number
unfoldable pub scan_hex : Scan → ℕ → Scan
scan_hex s b = when ltb (hex_of b) 16 then scan_as 2 s.line s.row 0 (more 16 s.value (hex_of b)) else with_kind s 11

-- in a comment and after a slash
unfoldable pub scan_comment : Scan → ℕ → Scan
scan_comment s b = when eqb b 10 then scan_as 0 (bump s.line) s.row 0 0 else s

unfoldable pub scan_slash : Scan → ℕ → Scan
scan_slash s b = when eqb b 47 then with_kind s 4 else with_kind s 11

module _ (depth width : ℕ) where
  -- a trit, in a word or at its start
  unfoldable pub scan_trit : Scan → Scan
  scan_trit s =
      when ltb s.row depth then (when eqb (left_of width s) 0 then with_kind s 13 else scan_as 1 s.line s.row (left_of width s - 1) 0)
      else with_kind s 14

  -- between words or in one, a byte that ends none
  unfoldable pub scan_word : Scan → ℕ → Scan
  scan_word s b =
      when ltb (trit_of b) 3 then scan_trit s
      else when eqb s.kind 1 && eqb b 95 then s
      else when eqb s.kind 0 && eqb b 64 then with_kind s 5
      else with_kind s 11

  -- a byte outside comments
  unfoldable pub scan_plain : Scan → ℕ → Scan
  scan_plain s b = when is_end b then between (ended depth s) b else when leb s.kind 1 then scan_word s b else scan_hex s b

  unfoldable pub scan_step_of : Scan → ℕ → Scan
  scan_step_of s b =
      when ltb 8 s.kind then s
      else when eqb s.kind 4 then scan_comment s b
      else when eqb s.kind 3 then scan_slash s b
      else scan_plain s b

  -- a trit is stored
  unfoldable pub is_stored : Scan → ℕ → Bool
  is_stored s b = leb s.kind 1 && (ltb (trit_of b) 3 && (ltb s.row depth && ltb 0 (left_of width s)))

  unfoldable pub scan_stored : Scan → ℕ → List ℕ → List ℕ
  scan_stored s b rows = when is_stored s b then set rows (place_of width s) (trit_of b) else rows

  unfoldable pub scan_run : Scan → List ℕ → List ℕ → ScanEnd
  scan_run s rows [] = record { state = s; rows = rows }
  scan_run s rows (b ∷ bs) = scan_run (scan_step_of s b) (scan_stored s b rows) bs

  -- the rows of a text from a place on, where the text's end is a line break; a text that is too long is not read, and no memory has rows wider than the limit
  unfoldable pub rows_read : List ℕ → List ℕ → ℕ → ScanEnd
  rows_read rows text from =
      when ltb max_width width then record { state = scan_as 15 1 0 0 0; rows = rows }
      else when ltb max_text (length text) then record { state = scan_as 15 1 0 0 0; rows = rows }
      else scan_run scan_start rows (drop from (text ++ (10 ∷ [])))
