-- The answer of a listing with the room after it, in terms of the rules.
use Rattle.std.specs.Prelude.{ℕ, List, Result}
use Rattle.rules.specs.declared.numbers.Refusal.{Refusal}
use Rattle.rules.specs.Refusal.{answer_by}
use Rattle.rules.specs.Answers as rules

-- document 01's number, or the bytes of the text
abbrev pub view_listed : Result ℕ Refusal → rules.Answer ℕ
view_listed r = answer_by (λ n. n) r

abbrev pub listed_as : Result ℕ Refusal → List ℕ → rules.Listed
listed_as r out = record { answer = view_listed r; out = out }
