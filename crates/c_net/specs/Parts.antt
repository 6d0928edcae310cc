-- The two parts of an answer's struct.
use Rattle.std.specs.Prelude.{ℕ, Result, Ok, Err}
use Rattle.rules.specs.declared.numbers.Refusal.{Refusal}
use Rattle.rules.specs.Refusal.{number}

-- a refusal's number and a value that stands for none, or 0 and the answer's value
abbrev pub parts_of : {A : Type 0} → Result A Refusal → A → ℕ × A
parts_of (Ok a) none = (0, a)
parts_of (Err e) none = (number e, none)
