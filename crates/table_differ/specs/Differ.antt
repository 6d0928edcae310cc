-- The rows in which two tables of one shape differ: a line for each, and a last line with their number, or `same`.
use Rattle.std.specs.Prelude.{ℕ, List, [], ◌∷◌, ◌++◌, eqb, ltb}
use Rattle.lists.specs.Choice.{when◌then◌else◌}
use Rattle.lists.specs.Lists.{sum_by, concat_map, up_from, same_list}
use Rattle.rules.specs.Limits.{max_depth, max_width}
use Rattle.rules.specs.Image.{row_of}
use Rattle.rules.specs.Lister.{decimal, space, newline}
use Rattle.table_print.specs.Rows.{bits_text}

-- "row ", ": ", "same" and "differ "
unfoldable pub row_word_of : List ℕ
row_word_of = 114 ∷ 111 ∷ 119 ∷ 32 ∷ []

unfoldable pub colon : List ℕ
colon = 58 ∷ 32 ∷ []

unfoldable pub same_line : List ℕ
same_line = 115 ∷ 97 ∷ 109 ∷ 101 ∷ 10 ∷ []

unfoldable pub differ_word : List ℕ
differ_word = 100 ∷ 105 ∷ 102 ∷ 102 ∷ 101 ∷ 114 ∷ 32 ∷ []

-- ---- one row: its number, what the first table has, what the second has
unfoldable pub diff_line : ℕ → ℕ → List ℕ → List ℕ → List ℕ
diff_line width r x y =
    row_word_of ++ decimal r ++ colon ++ bits_text x 0 width [] ++ (space ∷ []) ++ bits_text y 0 width [] ++ (newline ∷ [])

unfoldable pub diff_of : ℕ → ℕ → List ℕ → List ℕ → List ℕ
diff_of width r x y = when same_list x y then [] else diff_line width r x y

-- 1 where the rows differ, however many of their trits do
unfoldable pub differs : List ℕ → List ℕ → ℕ
differs x y = when same_list x y then 0 else 1

-- ---- n rows from row r on
module _ (width : ℕ) (a b : List ℕ) where
  unfoldable pub diff_lines : ℕ → ℕ → List ℕ
  diff_lines r n = concat_map (λ i. diff_of width i (row_of width a i) (row_of width b i)) (up_from r n)

  unfoldable pub differing : ℕ → ℕ → ℕ
  differing r n = sum_by (λ i. differs (row_of width a i) (row_of width b i)) (up_from r n)

-- ---- the last line
unfoldable pub last_line : ℕ → List ℕ
last_line n = when eqb n 0 then same_line else differ_word ++ decimal n ++ (newline ∷ [])

-- the text for two tables within the limits of a memory, and none for others
unfoldable pub diff_text : ℕ → ℕ → List ℕ → List ℕ → List ℕ
diff_text depth width a b =
    when ltb max_depth depth then []
    else when ltb max_width width then []
    else diff_lines width a b 0 depth ++ last_line (differing width a b 0 depth)
