-- The lister program: what it prints for what it reads.
use Rattle.std.specs.Prelude.{ℕ, zero, suc, ◌+◌, ◌*◌, ◌/◌, ◌%◌, Bool, true, false, List, [], ◌∷◌, ◌++◌, map, eqb, ltb}
use Rattle.lists.specs.Choice.{when◌then◌else◌}
use Rattle.lists.specs.Lists.{sum_by, part, up_from, concat_map}
use Rattle.rules.specs.Logic.{Const, ones}
use Rattle.rules.specs.Image.{depth_at, rows_before}
use Rattle.rules.specs.Record.{Sizes, size_mems, size_trits, known_bit, value_bit, head_sizes, decode_image}
use Rattle.rules.specs.Refusals.{record_number}

unfoldable pub size_depth : Sizes → ℕ → ℕ
size_depth s i = depth_at s.full s.full_depth_of s.partial_depth i

unfoldable pub size_start : Sizes → ℕ → ℕ
size_start s i = rows_before s.full s.full_depth_of s.partial_depth i * s.unit

-- memory i's trits
unfoldable pub mem_trits : Sizes → Const → ℕ → Const
mem_trits s image i = part (size_start s i) (size_depth s i * s.unit) image

-- index, depth, known trits and ones of a memory
pub record Summary : Type 0 where
  pub index : ℕ
  pub depth : ℕ
  pub known : ℕ
  pub ones : ℕ

unfoldable pub summary_of : Sizes → Const → ℕ → Summary
summary_of s image i = record {
  index = i;
  depth = size_depth s i;
  known = sum_by known_bit (mem_trits s image i);
  ones = sum_by value_bit (mem_trits s image i);
}

unfoldable pub summaries : Sizes → Const → List Summary
summaries s image = map (summary_of s image) (up_from 0 (size_mems s))

-- blank when it has no one, else load
unfoldable pub is_blank : ℕ → ℕ → Bool
is_blank known ones = eqb ones 0

-- ---- what it prints
-- the decimal digits of a number, before what follows
unfoldable pub digits_from : ℕ → ℕ → List ℕ → List ℕ
digits_from zero n after = after
digits_from (suc more) n after = elim (ltb n 10) [ true ↦ (48 + n) ∷ after | false ↦ digits_from more (n / 10) ((48 + n % 10) ∷ after) ]

unfoldable pub decimal : ℕ → List ℕ
decimal n = digits_from 10 n []

abbrev pub space : ℕ
space = 32

abbrev pub newline : ℕ
newline = 10

-- "memories ", " trits ", "blank", "load", "refused "
unfoldable pub memories_text : List ℕ
memories_text = 109 ∷ 101 ∷ 109 ∷ 111 ∷ 114 ∷ 105 ∷ 101 ∷ 115 ∷ 32 ∷ []

unfoldable pub trits_text : List ℕ
trits_text = 32 ∷ 116 ∷ 114 ∷ 105 ∷ 116 ∷ 115 ∷ 32 ∷ []

unfoldable pub blank_text : List ℕ
blank_text = 98 ∷ 108 ∷ 97 ∷ 110 ∷ 107 ∷ []

unfoldable pub load_text : List ℕ
load_text = 108 ∷ 111 ∷ 97 ∷ 100 ∷ []

unfoldable pub refused_text : List ℕ
refused_text = 114 ∷ 101 ∷ 102 ∷ 117 ∷ 115 ∷ 101 ∷ 100 ∷ 32 ∷ []

unfoldable pub head_line : Sizes → List ℕ
head_line s = memories_text ++ decimal (size_mems s) ++ trits_text ++ decimal (size_trits s) ++ (newline ∷ [])

unfoldable pub memory_line : Summary → List ℕ
memory_line y =
    decimal y.index
    ++ (space ∷ decimal y.depth)
    ++ (space ∷ decimal y.known)
    ++ (space ∷ decimal y.ones)
    ++ (space ∷ (when is_blank y.known y.ones then blank_text else load_text))
    ++ (newline ∷ [])

unfoldable pub refused_line : ℕ → List ℕ
refused_line n = refused_text ++ decimal n ++ (newline ∷ [])

unfoldable pub listed : List ℕ → List ℕ
listed bytes = head_line (head_sizes bytes) ++ concat_map memory_line (summaries (head_sizes bytes) (decode_image bytes))

-- the lister's standard output for its standard input
unfoldable pub lister : List ℕ → List ℕ
lister bytes = when eqb (record_number bytes) 0 then listed bytes else refused_line (record_number bytes)
