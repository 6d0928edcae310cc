-- The whole answer of `make_data_swizzle`, by its number.
use mathlib.Core.Path.{◌≡◌, ◌∙◌}
use Prim.Native.Nat.{ℕ}
use mathlib.Core.List.{List}
use lib.ListN.{length}
use lib.Seq.{sets}
use Rattle.rules.specs.declared.numbers.Refusal.{Refusal}
use Rattle.rules.specs.Refusal.{number}
use Rattle.rules.specs.Cell.{Given}
use Rattle.rules.specs.Geometry.{make_data_swizzle}
use Rattle.rules.specs.Refusals.{make_data_swizzle_refusal}
use Rattle.rules.specs.Answers.{Refused, Accepted, Listed, make_data_swizzle_call}
use Rattle.rules.proofs.Answers.{answer_err, answer_ok, left_err, left_ok}

module _ (out : List ℕ) (g : Given) (gs : List ℕ) where
  abbrev refusal : ℕ
  refusal = make_data_swizzle_refusal (length out) g gs

  pub entries_err : (e : Refusal) → number e ≡ refusal → ◌≡◌ {A = Listed} (record { answer = Refused (number e); out = out }) (make_data_swizzle_call out g gs)
  unfolding make_data_swizzle_call
  entries_err e h = λ i. record { answer = answer_err e refusal (length (make_data_swizzle g.mem gs)) h i; out = left_err e refusal out (sets out 0 (make_data_swizzle g.mem gs)) h i }

  pub entries_ok : (k : ℕ) (after : List ℕ) → 0 ≡ refusal → k ≡ length (make_data_swizzle g.mem gs) → after ≡ sets out 0 (make_data_swizzle g.mem gs)
      → ◌≡◌ {A = Listed} (record { answer = Accepted k; out = after }) (make_data_swizzle_call out g gs)
  unfolding make_data_swizzle_call
  entries_ok k after z e q =
      λ i. record { answer = answer_ok refusal (length (make_data_swizzle g.mem gs)) k z e i; out = (q ∙ left_ok refusal out (sets out 0 (make_data_swizzle g.mem gs)) z) i }
