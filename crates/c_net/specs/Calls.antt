-- Calls that the rules do not have as such: the functions of trits on codes, and the select bits in lent room.
use Rattle.std.specs.Prelude.{ℕ, List, length}
use Rattle.lists.specs.Choice.{◌or_else◌}
use Rattle.rules.specs.Logic.{Trit, trit_of, code_of, trit_not}
use Rattle.rules.specs.Value.{Value}
use Rattle.rules.specs.Ports.{narrower_select}
use Rattle.rules.specs.Refusals.{trit_refusal, narrower_select_refusal, lent_refusal}
use Rattle.rules.specs.Answers.{Answer, answer_of, Listed, listed_in}

-- a code that is no trit's is refused by 4
unfoldable pub trit_not_call : ℕ → Answer ℕ
trit_not_call a = answer_of (trit_refusal a) (code_of (trit_not (trit_of a)))

-- and, or
unfoldable pub trit_pair_call : (Trit → Trit → Trit) → ℕ → ℕ → Answer ℕ
trit_pair_call op a b = answer_of (trit_refusal a or_else trit_refusal b) (code_of (op (trit_of a) (trit_of b)))

-- 14, and 20 where they do not fit the room
unfoldable pub narrower_select_in : List ℕ → ℕ → ℕ → Value → Value → Listed
narrower_select_in out kw kr waddr raddr =
    let l = narrower_select kw kr waddr raddr in
    listed_in (narrower_select_refusal kw kr waddr raddr or_else lent_refusal (length out) (length l)) out l
