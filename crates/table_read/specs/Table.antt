-- The table that a text gives: a layout and its rows, depth × width trits, row 0 and bit 0 first. Rows that are not given are X.
use Rattle.std.specs.Prelude.{ℕ, ◌-◌, ◌*◌, List, [], ◌∷◌, ◌++◌, length, take, get_or, replicate, eqb, ltb}
use Rattle.lists.specs.Choice.{when◌then◌else◌}
use Rattle.lists.specs.Lists.{part, up_from}
use Rattle.rules.specs.Limits.{trit_x, max_bits}
use Rattle.rules.specs.Geometry.{Layout}
use Rattle.rules.specs.Conditions.{bad_layout}
use Rattle.table_text.specs.Bytes.{max_text}
use Rattle.table_text.specs.Head.{Head, head_start, HeadEnd, head_run}
use Rattle.table_text.specs.Scan.{scan_start, ScanEnd, scan_run}

pub record Table : Type 0 where
  pub layout : Layout
  pub rows : List ℕ

-- a text is refused at a line, for a reason: 8 the text is too long, 9 the header, 10 a layout that no accepted swizzle has, 11 a byte that does not belong
-- there, 12 a word that is too short, 13 one that is too long, 14 a row past the depth
pub data Parsed : Type 0 where
  NoTable : ℕ → ℕ → Parsed
  IsTable : Table → Parsed

-- the words of a header: two numbers, up to 256 entries, three numbers
abbrev pub max_words : ℕ
max_words = 261

-- the entries among the words; where none is given, each bit in its place
unfoldable pub entries_read : List ℕ → ℕ → List ℕ
entries_read ws count = when eqb count 5 then up_from 0 (get_or ws 1 0) else part 2 (count - 5) ws

unfoldable pub layout_read : List ℕ → ℕ → Layout
layout_read ws count = record {
  depth = get_or ws 0 0;
  width = get_or ws 1 0;
  entries = entries_read ws count;
  soft_mask = get_or ws (count - 3) 0;
  hard = get_or ws (count - 2) 0;
  unit = get_or ws (count - 1) 0;
}

-- the reason that refuses a header, or 0
unfoldable pub head_number : Head → ℕ
head_number h = when eqb h.kind 3 then (when ltb max_words h.count then 9 else 0) else 9

-- a layout, and the rows as the machine left them
unfoldable pub table_of : Layout → ScanEnd → Parsed
table_of q e =
    when eqb e.state.kind 0 then IsTable (record { layout = q; rows = take (q.depth * q.width) e.rows })
    else NoTable e.state.line e.state.kind

unfoldable pub rows_table : Layout → List ℕ → Parsed
rows_table q text = table_of q (scan_run q.depth q.width scan_start (replicate max_bits trit_x) text)

unfoldable pub layout_table : Layout → List ℕ → Parsed
layout_table q text = when bad_layout q then NoTable 1 10 else rows_table q text

unfoldable pub head_table : HeadEnd → Parsed
head_table e = when eqb (head_number e.state) 0 then layout_table (layout_read e.words e.state.count) e.rest else NoTable 1 (head_number e.state)

-- the table of a text, whose end is a line break
unfoldable pub parse_table : List ℕ → Parsed
parse_table text =
    when ltb max_text (length text) then NoTable 1 8
    else head_table (head_run head_start (replicate max_words 0) (text ++ (10 ∷ [])))
