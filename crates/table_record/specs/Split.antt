-- The record of rows in a layout, and of a table's text.
use Rattle.std.specs.Prelude.{ℕ, List, length, replicate, eqb}
use Rattle.lists.specs.Choice.{when◌then◌else◌}
use Rattle.rules.specs.Limits.{max_image}
use Rattle.rules.specs.Geometry.{Layout}
use Rattle.rules.specs.Record.{Sizes, record_bytes}
use Rattle.rules.specs.Refusals.{write_record_refusal}
use Rattle.rules.specs.Answers.{Answer, Refused, Accepted, answer_of, sizes_call, write_record_call, Filled, Listed}
use Rattle.rules.specs.Beside.Shape.{handed_on}
use Rattle.rules.specs.Beside.Layouts.{fill_call}
use Rattle.table_read.specs.Table.{Parsed, NoTable, IsTable, parse_table}

-- the record of an image of these sizes in lent room: its bytes, or the number that refuses it
unfoldable pub record_call : List ℕ → Answer Sizes → List ℕ → Listed
record_call out (Refused n) image = record { answer = Refused n; out = out }
record_call out (Accepted z) image = record { answer = answer_of (write_record_refusal (length out) z image) (record_bytes z); out = (write_record_call out z image).out }

-- of the image that the rows give in a layout
unfoldable pub filled_record : List ℕ → Layout → Filled → Listed
filled_record out q f = when eqb f.number 0 then record_call out (sizes_call (handed_on q)) f.out else record { answer = Refused f.number; out = out }

unfoldable pub rows_record : List ℕ → Layout → List ℕ → Listed
rows_record out q rows = filled_record out q (fill_call (handed_on q) rows (replicate max_image 0))

-- of a text: where it is refused, the line and the reason, else the record's bytes or a number
pub data Split : Type 0 where
  BadText : ℕ → ℕ → Split
  IsSplit : Answer ℕ → Split

pub record SplitEnd : Type 0 where
  pub answer : Split
  pub out : List ℕ

unfoldable pub split_by : List ℕ → Parsed → SplitEnd
split_by out (NoTable line reason) = record { answer = BadText line reason; out = out }
split_by out (IsTable t) = let l = rows_record out t.layout t.rows in record { answer = IsSplit l.answer; out = l.out }

unfoldable pub split_call : List ℕ → List ℕ → SplitEnd
split_call out text = split_by out (parse_table text)
