-- The crate's answers in terms of the definitions.
use Rattle.std.specs.Prelude.{ℕ, List, Result, Ok, Err}
use Rattle.rules.specs.declared.numbers.Refusal.{Refusal}
use Rattle.rules.specs.Refusal.{number}
use Rattle.rules.specs.Answers as rules
use Rattle.rules.specs.Answers.{Listed}
use Rattle.record_codec.specs.View.{view_written}
use Rattle.table_text.specs.View.{reason_number}
use Rattle.table_record.specs.declared.Refused.{Refused}
use Rattle.table_record.specs.declared.Refused.TheVariants.{Text, Call}
use Rattle.table_record.specs.Split as texts
use Rattle.table_record.specs.Split.{Split, SplitEnd}

abbrev pub listed_of : Result ℕ Refusal → List ℕ → Listed
listed_of r out = record { answer = view_written r; out = out }

abbrev pub answer_as : Result ℕ Refused → Split
answer_as (Ok n) = texts.IsSplit (rules.Accepted n)
answer_as (Err (Text f)) = texts.BadText f.line (reason_number f.reason)
answer_as (Err (Call e)) = texts.IsSplit (rules.Refused (number e))

abbrev pub split_as : Result ℕ Refused → List ℕ → SplitEnd
split_as r out = record { answer = answer_as r; out = out }
