-- What a request that makes nets leaves.
use mathlib.Core.Path.{◌≡◌, refl, ap, ◌∙◌}
use Prim.Native.Nat.{ℕ}
use mathlib.Core.List.{List}
use Rattle.std.specs.Prelude.{Result, Ok, Err}
use Rattle.lists.specs.Lists.{up_from}
use Rattle.rules.specs.Value.{Value}
use Rattle.rules.specs.Answers.{Logged, lent_call}
use Rattle.rules.specs.declared.numbers.Refusal.{Refusal}
use Rattle.log_entries.specs.declared.LogState.{LogState}
use Rattle.log_entries.specs.View.{state_of}
use Rattle.log_requests.specs.Answers.{logged_of}
use Rattle.log_lent.specs.Returned.{returned, nets_of, made_nets, state_then}

same : (s : LogState) (width : ℕ) (r : Result LogState Refusal) (log : List ℕ)
    → returned (nets_of (made_nets s width r)) (state_then s r) log ≡ lent_call (state_of s) (logged_of (up_from s.next width) r log)
same s width (Ok a) log = refl
same s width (Err e) log = refl

pub nets_made : (s : LogState) (width : ℕ) (r : Result LogState Refusal) (log : List ℕ) (call : Logged Value) → logged_of (up_from s.next width) r log ≡ call
    → returned (nets_of (made_nets s width r)) (state_then s r) log ≡ lent_call (state_of s) call
nets_made s width r log call e = same s width r log ∙ ap (lent_call (state_of s)) e
