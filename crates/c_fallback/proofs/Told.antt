-- The struct of an answer to a fallback says what the library's answer says.
use mathlib.Core.Path.{◌≡◌, refl, sym, ap, ◌∙◌, subst}
use mathlib.Core.List.{List}
use Prim.Native.Nat.{ℕ}
use Rattle.std.specs.Prelude.{Result, Ok, Err}
use Rattle.rules.specs.Value.{Value}
use Rattle.rules.specs.Cell.{Given}
use Rattle.rules.specs.Answers.{lower_fallback_call}
use Rattle.rules.specs.declared.numbers.Refusal.{Refusal}
use Rattle.log_entries.specs.declared.LogState.{LogState}
use Rattle.log_entries.specs.View.{state_of}
use Rattle.net_memory.specs.declared.Memory.{Memory}
use Rattle.c_log.specs.declared.Logged.{Logged}
use Rattle.c_log.specs.View.{logged_struct}
use Rattle.fallback.specs.Answer.{Left, left_by, lowered_of, Lowers}
use Rattle.c_fallback.specs.View.{given_lowered}

same : (st : LogState) (x : Result LogState Refusal) → given_lowered (logged_struct st x) ≡ left_by st x
same st (Ok s) = refl
same st (Err e) = refl

module _ (st : LogState) (x : Result LogState Refusal) (r : Logged) (made : r ≡ logged_struct st x) where
  back : given_lowered r ≡ left_by st x
  back = ap given_lowered made ∙ same st x

  pub told_call : (need : ℕ) (log scratch log' scratch' : List ℕ) (g : Given) (output : Value)
      → lowered_of (left_by st x) need log' scratch' ≡ lower_fallback_call scratch log (state_of st) g output
      → lowered_of (given_lowered r) need log' scratch' ≡ lower_fallback_call scratch log (state_of st) g output
  told_call need log scratch log' scratch' g output h = ap (λ (y : Left). lowered_of y need log' scratch') back ∙ h

  pub told_fields : (m : Memory) (nets trits output log scratch log' scratch' : List ℕ)
      → Lowers m nets trits output st log scratch (left_by st x) log' scratch' → Lowers m nets trits output st log scratch (given_lowered r) log' scratch'
  told_fields m nets trits output log scratch log' scratch' h = subst (λ (y : Left). Lowers m nets trits output st log scratch y log' scratch') (sym back) h
