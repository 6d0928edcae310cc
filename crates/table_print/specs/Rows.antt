-- The text of rows: each a line of its trits, most significant bit first. Each function writes before the text that follows.
use Rattle.std.specs.Prelude.{ℕ, zero, suc, ◌+◌, ◌*◌, List, [], ◌∷◌, get_or, eqb, ltb}
use Rattle.lists.specs.Choice.{when◌then◌else◌}
use Rattle.rules.specs.Limits.{trit_x, max_depth, max_width}

-- 0, 1 or x
unfoldable pub char_of : ℕ → ℕ
char_of t = when eqb t 0 then 48 else when eqb t 1 then 49 else 120

-- so many trits from a place on, the last first
unfoldable pub bits_text : List ℕ → ℕ → ℕ → List ℕ → List ℕ
bits_text rows at zero after = after
bits_text rows at (suc k) after = char_of (get_or rows (at + k) trit_x) ∷ bits_text rows at k after

-- n rows from row r on, each with its line break
unfoldable pub rows_from : ℕ → List ℕ → ℕ → ℕ → List ℕ → List ℕ
rows_from width rows r zero after = after
rows_from width rows r (suc n) after = bits_text rows (r * width) width (10 ∷ rows_from width rows (suc r) n after)

-- all rows of a table
unfoldable pub rows_text : ℕ → ℕ → List ℕ → List ℕ
rows_text depth width rows = rows_from width rows 0 depth []

-- the text of rows within the limits of a memory, and none of others
unfoldable pub rows_shown : ℕ → ℕ → List ℕ → List ℕ
rows_shown depth width rows = when ltb max_depth depth then [] else when ltb max_width width then [] else rows_text depth width rows
