-- The crate's answer as a table or a refusal.
use Rattle.std.specs.Prelude.{ℕ, ◌-◌, ◌*◌, List, take, get_or, Result, Ok, Err}
use Rattle.rules.specs.Geometry.{Layout}
use Rattle.image_geometry.specs.declared.Params.{Params}
use Rattle.image_geometry.specs.View.{layout_by}
use Rattle.table_text.specs.View.{reason_number}
use Rattle.table_read.specs.declared.Table.{Table}
use Rattle.table_read.specs.declared.Fault.{Fault}
use Rattle.table_read.specs.declared.Entries.{Entries}
use Rattle.table_read.specs.Table.{Parsed, NoTable, IsTable}

-- a layout's numbers among the words of a header
abbrev pub params_read : List ℕ → ℕ → Params
params_read ws count = record {
  depth = get_or ws 0 0;
  width = get_or ws 1 0;
  soft_mask = get_or ws (count - 3) 0;
  hard = get_or ws (count - 2) 0;
  unit = get_or ws (count - 1) 0;
}

-- the layout of numbers and the entries in use
abbrev pub layout_given : Params → Entries → Layout
layout_given p es = layout_by p (take es.len es.list)

abbrev pub layout_in : Table → Layout
layout_in t = layout_given t.params t.entries

unfoldable pub parsed_of : Result Table Fault → Parsed
parsed_of (Ok t) = IsTable (record { layout = layout_in t; rows = take (t.params.depth * t.params.width) t.rows })
parsed_of (Err f) = NoTable f.line (reason_number f.reason)
