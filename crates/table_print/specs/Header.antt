-- The header line of a table, and its whole text. Each function writes before the text that follows.
use Rattle.std.specs.Prelude.{ℕ, List, [], ◌∷◌, eqb}
use Rattle.lists.specs.Choice.{when◌then◌else◌}
use Rattle.rules.specs.Limits.{None}
use Rattle.rules.specs.Lister.{digits_from}
use Rattle.rules.specs.Geometry.{Layout}
use Rattle.table_read.specs.Table.{Table}
use Rattle.table_print.specs.Rows.{rows_from}

-- a number in decimal
unfoldable pub number_text : ℕ → List ℕ → List ℕ
number_text n after = digits_from 10 n after

-- an entry: a number, or - for none
unfoldable pub entry_text : ℕ → List ℕ → List ℕ
entry_text e after = when eqb e None then 45 ∷ after else number_text e after

-- entries, each behind a comma
unfoldable pub more_entries : List ℕ → List ℕ → List ℕ
more_entries [] after = after
more_entries (e ∷ es) after = 44 ∷ entry_text e (more_entries es after)

-- all entries, or `plain` where there are none
unfoldable pub entries_text : List ℕ → List ℕ → List ℕ
entries_text [] after = 112 ∷ 108 ∷ 97 ∷ 105 ∷ 110 ∷ after
entries_text (e ∷ es) after = entry_text e (more_entries es after)

unfoldable pub header_text : Layout → List ℕ → List ℕ
header_text q after =
    number_text q.depth
    (32 ∷ number_text q.width (32 ∷ entries_text q.entries (32 ∷ number_text q.soft_mask (32 ∷ number_text q.hard (32 ∷ number_text q.unit (10 ∷ after))))))

unfoldable pub print_table : Table → List ℕ
print_table t = header_text t.layout (rows_from t.layout.width t.rows 0 t.layout.depth [])
