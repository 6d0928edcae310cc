-- What a swizzle tells, refused or not.
use Rattle.std.specs.Prelude.{ℕ, Result, Ok, Err}
use Rattle.rules.specs.Record.{Sizes}
use Rattle.rules.specs.Answers.{Answer, Refused, Accepted}
use Rattle.rules.specs.Refusal.{number}
use Rattle.rules.specs.declared.numbers.Refusal.{Refusal}
use Rattle.log_entries.specs.declared.LogState.{LogState}
use Rattle.record_sizes.specs.View.{view_sizes}
use Rattle.image_state.specs.declared.Laid.{Laid}
use Rattle.image_state.specs.View.{unset_laid}
use Rattle.swizzle_call.specs.declared.Made.{Made}
use Rattle.swizzle_call.specs.declared.Swizzled.{Swizzled}
use Rattle.swizzle_call.specs.Made.{none_yet_of}

-- the number that refuses it or 0, what it makes, the state that patches go by, and the record's sizes
pub record Told : Type 0 where
  pub refusal : ℕ
  pub made : Made
  pub laid : Laid
  pub sizes : Answer Sizes

-- refused: the log's state as it was, no memories, and no state for patches
abbrev pub refused_told : LogState → ℕ → Told
refused_told st n = record { refusal = n; made = none_yet_of st; laid = unset_laid; sizes = Refused n }

abbrev pub accepted_told : Swizzled → Told
accepted_told x = record { refusal = 0; made = x.made; laid = x.laid; sizes = Accepted (view_sizes x.sizes) }

-- the answer of a call that began with this state of the log
abbrev pub told : LogState → Result Swizzled Refusal → Told
told st (Ok x) = accepted_told x
told st (Err e) = refused_told st (number e)
