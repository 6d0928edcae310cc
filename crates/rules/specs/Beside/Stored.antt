-- The lister's output by the first bytes of its standard input and the input's length: no more need be stored than the longest record takes.
use Rattle.std.specs.Prelude.{ℕ, List, length, eqb}
use Rattle.lists.specs.Choice.{when◌then◌else◌, ◌or_else◌}
use Rattle.rules.specs.Lister.{refused_line, lister}
use Rattle.rules.specs.Refusals.{header_refusal, lent_refusal}
use Rattle.rules.specs.Answers.{Listed, listed_in}

-- an input of which not all is stored is refused by its head; one that its head would accept has the wrong length
unfoldable pub lister_stored : List ℕ → ℕ → List ℕ
lister_stored first total = when eqb (length first) total then lister first else refused_line (header_refusal first total or_else 16)

-- in lent room
unfoldable pub list_input_call : List ℕ → List ℕ → ℕ → Listed
list_input_call out first total = listed_in (lent_refusal (length out) (length (lister_stored first total))) out (lister_stored first total)
