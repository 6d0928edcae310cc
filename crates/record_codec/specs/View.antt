-- For each case of an answer, document 01's number or the values.
use Rattle.std.specs.Prelude.{ℕ, min, Result}
use Rattle.rules.specs.declared.numbers.Refusal.{Refusal}
use Rattle.rules.specs.Limits.{max_image}
use Rattle.rules.specs.Record as rules
use Rattle.rules.specs.Refusal.{answer_by}
use Rattle.rules.specs.Answers.{Answer, Refused, Accepted}
use Rattle.record_sizes.specs.View.{view_sizes}
use Rattle.record_sizes.specs.declared.Sizes.{Sizes}

-- of a head, and of a record that is read
abbrev pub view_head : Result Sizes Refusal → Answer rules.Sizes
view_head r = answer_by view_sizes r

-- the bytes of the record
abbrev pub view_written : Result ℕ Refusal → Answer ℕ
view_written r = answer_by (λ n. n) r

-- the trits to take of a record: as many as its sizes say, and none of one that is refused
abbrev pub to_take : Answer rules.Sizes → ℕ
to_take (Refused n) = 0
to_take (Accepted s) = min (rules.size_trits s) max_image
