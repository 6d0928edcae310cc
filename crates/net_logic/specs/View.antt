-- What a machine's trit, its answers and a returned part are in terms of the rules.
use Rattle.std.specs.Prelude.{ℕ, Bool, List, [], Result}
use Rattle.rules.specs.Logic as rules
use Rattle.rules.specs.Answers.{Answer}
use Rattle.rules.specs.Answers as answers
use Rattle.net_logic.specs.declared.Trit.{Trit}
use Rattle.net_logic.specs.declared.Trit.TheVariants.{Zero, One, Undef}
use Rattle.rules.specs.Refusal.{answer_by}
use Rattle.rules.specs.declared.numbers.Refusal.{Refusal}

abbrev pub trit_view : Trit → rules.Trit
trit_view Zero = rules.Zero
trit_view One = rules.One
trit_view Undef = rules.Undef

abbrev pub trit_answer : Result Trit Refusal → Answer rules.Trit
trit_answer = answer_by trit_view

abbrev pub bool_answer : Result Bool Refusal → Answer Bool
bool_answer = answer_by (λ b. b)

-- a returned part: a call that is refused gives the empty part
abbrev pub given_part : Answer (List ℕ) → List ℕ
given_part (answers.Refused n) = []
given_part (answers.Accepted l) = l
