-- What a machine's refusals and answers are in terms of the rules: each refusal's number, and an answer with a value or without.
use Rattle.std.specs.Prelude.{ℕ, Option, Some, None, Result, Ok, Err}
use Rattle.rules.specs.declared.numbers.Refusal.{Refusal}
use Rattle.rules.specs.declared.numbers.Refusal.TheVariants.{TooLarge, BadShape, BadDepth, BadValue, BadGranularity, RowTooLong, BadEntries, BadSoftMask, BadWideLogs, ResultTooLarge, WriteClocksDiffer, ReadClocksDiffer, MixedRelations, ShortAddress, OutOfRange, BadHead, BadSizes, BadBits, NoRoom, NetsFull, Unclocked, NotLaidOut}
use Rattle.rules.specs.Answers.{Answer, Refused, Accepted}

-- as docs/NUMBERS.md lists them
abbrev pub number : Refusal → ℕ
number TooLarge = 1
number BadShape = 2
number BadDepth = 3
number BadValue = 4
number BadGranularity = 5
number RowTooLong = 6
number BadEntries = 7
number BadSoftMask = 8
number BadWideLogs = 9
number ResultTooLarge = 10
number WriteClocksDiffer = 11
number ReadClocksDiffer = 12
number MixedRelations = 13
number ShortAddress = 14
number OutOfRange = 15
number BadHead = 16
number BadSizes = 17
number BadBits = 18
number NoRoom = 20
number NetsFull = 21
number Unclocked = 22
number NotLaidOut = 23

-- the number of an answer, 0 where the call is accepted
abbrev pub number_of : {A : Type 0} → Result A Refusal → ℕ
number_of (Ok a) = 0
number_of (Err e) = number e

-- the number of a reason to refuse, 0 where there is none
abbrev pub number_if : Option Refusal → ℕ
number_if None = 0
number_if (Some e) = number e

-- an answer, with its value as the rules have it
abbrev pub answer_by : {A B : Type 0} → (A → B) → Result A Refusal → Answer B
answer_by f (Ok a) = Accepted (f a)
answer_by f (Err e) = Refused (number e)
