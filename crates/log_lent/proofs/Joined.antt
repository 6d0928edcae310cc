-- How an answer, a state and a log join to what a request on a lent state leaves.
use mathlib.Core.Path.{◌≡◌, sym, ap, ◌∙◌}
use Prim.Native.Nat.{ℕ}
use mathlib.Core.List.{List}
use Rattle.rules.specs.Log.{LogState}
use Rattle.rules.specs.Value.{Value}
use Rattle.rules.specs.Answers.{Answer, After, Logged, Merged, Returned, value_of, state_left, lent_call, ReturnedMerge, lent_merge}
use Rattle.log_entries.specs.View.{state_of}
use Rattle.log_entries.specs.declared.LogState as machine
use Rattle.log_lent.specs.Returned.{returned, returned_merge}

-- an enum that is known
module _ {A R : Type 0} (s : LogState) (f : R → Answer (After A)) where
  pub told : (x y : R) → x ≡ y → (value_of (f y) ≡ value_of (f x)) × (state_left s (f y) ≡ state_left s (f x))
  told x y e = (ap (λ (z : R). value_of (f z)) (sym e), ap (λ (z : R). state_left s (f z)) (sym e))

module _ {A : Type 0} (s : LogState) (a : Answer A) (t : machine.LogState) (log : List ℕ) (x : Answer (After A)) (l : Logged A) where
  pub joined : (a ≡ value_of x) × (state_of t ≡ state_left s x) → record { answer = x; log = log } ≡ l → returned a t log ≡ lent_call s l
  joined e f = both ∙ ap (lent_call s) f
    where
      both : returned a t log ≡ lent_call s (record { answer = x; log = log })
      both i = record { answer = e.0 i; state = e.1 i; log = log }

-- the same with the room for results
module _ (s : LogState) (a : Answer Value) (t : machine.LogState) (log out : List ℕ) (x : Answer (After Value)) (m : Merged) where
  pub joined_merge : (a ≡ value_of x) × (state_of t ≡ state_left s x) → record { logged = record { answer = x; log = log }; out = out } ≡ m → returned_merge a t log out ≡ lent_merge s m
  joined_merge e f = all ∙ ap (lent_merge s) f
    where
      all : returned_merge a t log out ≡ lent_merge s (record { logged = record { answer = x; log = log }; out = out })
      all i = record { returned = record { answer = e.0 i; state = e.1 i; log = log }; out = out }
