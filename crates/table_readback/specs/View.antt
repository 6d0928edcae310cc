-- The crate's answer in terms of the definitions.
use Rattle.std.specs.Prelude.{ℕ, List, Result, Ok, Err}
use Rattle.rules.specs.Refusal.{number}
use Rattle.rules.specs.Answers as rules
use Rattle.table_text.specs.View.{reason_number}
use Rattle.table_readback.specs.declared.Refused.{Refused}
use Rattle.table_readback.specs.declared.Refused.TheVariants.{Text, Table, Call}
use Rattle.table_readback.specs.Back as texts
use Rattle.table_readback.specs.Back.{Back, BackEnd}

abbrev pub answer_as : Result ℕ Refused → Back
answer_as (Ok n) = texts.IsBack (rules.Accepted n)
answer_as (Err (Text f)) = texts.BadText f.line (reason_number f.reason)
answer_as (Err (Table f)) = texts.BadTable f.line (reason_number f.reason)
answer_as (Err (Call e)) = texts.IsBack (rules.Refused (number e))

abbrev pub end_as : Result ℕ Refused → List ℕ → BackEnd
end_as r out = record { answer = answer_as r; out = out }
