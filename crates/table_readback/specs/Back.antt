-- A text of a header line, a record, and a table where there is more: the record's rows as a table's text, or the rows in which they differ from the table.
use Rattle.std.specs.Prelude.{ℕ, suc, ◌*◌, Bool, ◌&&◌, List, [], ◌∷◌, ◌++◌, length, take, drop, replicate, eqb}
use Rattle.lists.specs.Choice.{when◌then◌else◌}
use Rattle.rules.specs.Limits.{max_image, max_bits}
use Rattle.rules.specs.Geometry.{Layout}
use Rattle.rules.specs.Record.{Sizes, record_bytes}
use Rattle.rules.specs.Refusals.{lent_refusal}
use Rattle.rules.specs.Answers.{Answer, Refused, Accepted, Filled, filled_with, listed_in, sizes_call, read_record_call}
use Rattle.rules.specs.Beside.Shape.{handed_on}
use Rattle.table_read.specs.Table.{Parsed, NoTable, IsTable, parse_table}
use Rattle.table_print.specs.Rows.{rows_shown}
use Rattle.table_rows.specs.Rows.{read_rows_call}
use Rattle.table_differ.specs.Differ.{diff_text}

-- the bytes of the first line with its break, or of all where there is no break
unfoldable pub line_end : List ℕ → ℕ
line_end [] = 0
line_end (b ∷ bs) = when eqb b 10 then 1 else suc (line_end bs)

-- ---- the rows of a record in a layout of these sizes: 16, 17 also for other sizes, 18
unfoldable pub same_sizes : Sizes → Sizes → Bool
same_sizes y z =
    eqb y.unit z.unit
    && (eqb y.full z.full && (eqb y.full_depth_of z.full_depth_of && (eqb y.partial z.partial && eqb y.partial_depth z.partial_depth)))

unfoldable pub sized_rows : Layout → Sizes → List ℕ → List ℕ → Answer Sizes → Filled
sized_rows q z room image (Refused n) = filled_with n room
sized_rows q z room image (Accepted y) = when same_sizes y z then read_rows_call (handed_on q) room image else filled_with 17 room

unfoldable pub record_rows : Layout → Sizes → List ℕ → List ℕ → Filled
record_rows q z room bytes = let d = read_record_call (replicate max_image 0) bytes in sized_rows q z room d.image d.answer

-- ---- the answer: the line and the reason that refuse the header or the table, or a number, or the bytes of the text
pub data Back : Type 0 where
  BadText : ℕ → ℕ → Back
  BadTable : ℕ → ℕ → Back
  IsBack : Answer ℕ → Back

pub record BackEnd : Type 0 where
  pub answer : Back
  pub out : List ℕ

-- a number refuses, and the room is as it was
abbrev pub refused_end : List ℕ → ℕ → BackEnd
refused_end out n = record { answer = IsBack (Refused n); out = out }

-- a text in lent room
unfoldable pub text_end : List ℕ → List ℕ → BackEnd
text_end out text = let l = listed_in (lent_refusal (length out) (length text)) out text in record { answer = IsBack l.answer; out = l.out }

-- with a table behind the record: 2 where it has another depth or width
unfoldable pub compared_end : List ℕ → ℕ → ℕ → List ℕ → Parsed → BackEnd
compared_end out depth width rows (NoTable line reason) = record { answer = BadTable line reason; out = out }
compared_end out depth width rows (IsTable t) =
    when eqb t.layout.depth depth && eqb t.layout.width width then text_end out (diff_text depth width rows t.rows) else refused_end out 2

-- what follows the record: nothing, or a table
unfoldable pub behind_end : List ℕ → List ℕ → ℕ → ℕ → List ℕ → List ℕ → BackEnd
behind_end out line depth width rows [] = text_end out (line ++ rows_shown depth width rows)
behind_end out line depth width rows (b ∷ bs) = compared_end out depth width rows (parse_table (b ∷ bs))

-- by the rows of the record
unfoldable pub rows_end_of : List ℕ → List ℕ → ℕ → ℕ → Filled → List ℕ → BackEnd
rows_end_of out line depth width f behind =
    when eqb f.number 0 then behind_end out line depth width (take (depth * width) f.out) behind else refused_end out f.number

-- by the sizes of the layout, which say how long the record is
unfoldable pub record_end : List ℕ → List ℕ → Layout → List ℕ → Answer Sizes → BackEnd
record_end out line q after (Refused n) = refused_end out n
record_end out line q after (Accepted z) =
    rows_end_of out line q.depth q.width (record_rows q z (replicate max_bits 0) (take (record_bytes z) after)) (drop (record_bytes z) after)

-- by the header
unfoldable pub head_end : List ℕ → List ℕ → List ℕ → Parsed → BackEnd
head_end out line after (NoTable n reason) = record { answer = BadText n reason; out = out }
head_end out line after (IsTable t) = record_end out line t.layout after (sizes_call (handed_on t.layout))

unfoldable pub back_by : List ℕ → List ℕ → ℕ → BackEnd
back_by out text n = head_end out (take n text) (drop n text) (parse_table (take n text))

-- of a text
unfoldable pub back_call : List ℕ → List ℕ → BackEnd
back_call out text = back_by out text (line_end text)
