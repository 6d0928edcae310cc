-- A choice by a test, the first number of several, and what a call leaves by its number.
use Rattle.std.specs.Prelude.{ℕ, min, Bool, true, false, eqb}

module _ {ℓ} {A : Type ℓ} where
  infixr 10 when◌then◌else◌
  abbrev pub when◌then◌else◌ : Bool → A → A → A
  when true then x else y = x
  when false then x else y = y

infixr 9 ◌or_else◌
-- the first number, or the second where the first is 0, which refuses nothing
unfoldable pub ◌or_else◌ : ℕ → ℕ → ℕ
n or_else rest = when eqb n 0 then rest else n

-- the lower of two numbers, where 0 is none
abbrev pub least : ℕ → ℕ → ℕ
least a b = when eqb a 0 then b else when eqb b 0 then a else min a b

module _ {ℓ} {A : Type ℓ} where
  -- what a call with this refusal number leaves: `before` where it is refused
  unfoldable pub leaves : ℕ → A → A → A
  leaves n before after = when eqb n 0 then after else before
