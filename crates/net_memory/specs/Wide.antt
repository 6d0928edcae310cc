-- What the answer of `wide_log2` is in terms of the rules.
use Rattle.std.specs.Prelude.{ℕ, Result}
use Rattle.rules.specs.Answers.{Answer}
use Rattle.rules.specs.Refusal.{answer_by}
use Rattle.rules.specs.declared.numbers.Refusal.{Refusal}

abbrev pub wide_of : Result ℕ Refusal → Answer ℕ
wide_of = answer_by (λ k. k)
