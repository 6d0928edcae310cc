-- The whole answer of `swizzle_mux_bits`, by its number.
use mathlib.Core.Path.{◌≡◌, refl, ap, ◌∙◌}
use Prim.Native.Nat.{ℕ}
use mathlib.Core.List.{List}
use Rattle.rules.specs.declared.numbers.Refusal.{Refusal}
use Rattle.rules.specs.Refusal.{number}
use Rattle.rules.specs.Cell.{Given, Plan}
use Rattle.rules.specs.Geometry.{write_mux_bits, read_mux_bits}
use Rattle.rules.specs.Refusals.{swizzle_mux_bits_refusal}
use Rattle.rules.specs.Answers.{Answer, Refused, Accepted, swizzle_mux_bits_call}
use Rattle.rules.proofs.Answers.{answer_err, answer_ok}
use Rattle.swizzle_plan.specs.Numbers.{in_eight}
use Rattle.swizzle_sizes.specs.Calls.{in_arrays}

module _ (g : Given) (ports : List ℕ) (p : Plan) where
  pub bits_err : (e : Refusal) → number e ≡ swizzle_mux_bits_refusal g ports p → ◌≡◌ {A = Answer (List ℕ × List ℕ)} (Refused (number e)) (in_arrays (swizzle_mux_bits_call g ports p))
  unfolding swizzle_mux_bits_call
  bits_err e h = ap in_arrays (answer_err e (swizzle_mux_bits_refusal g ports p) (write_mux_bits g.mem p, read_mux_bits g.mem ports p) h)

  pub bits_ok : (ws rs : List ℕ) → 0 ≡ swizzle_mux_bits_refusal g ports p → ws ≡ in_eight (write_mux_bits g.mem p) → rs ≡ in_eight (read_mux_bits g.mem ports p)
      → ◌≡◌ {A = Answer (List ℕ × List ℕ)} (Accepted (ws, rs)) (in_arrays (swizzle_mux_bits_call g ports p))
  unfolding swizzle_mux_bits_call
  bits_ok ws rs z a b =
      (λ i. Accepted (a i, b i))
      ∙ ap in_arrays (answer_ok (swizzle_mux_bits_refusal g ports p) (write_mux_bits g.mem p, read_mux_bits g.mem ports p) (write_mux_bits g.mem p, read_mux_bits g.mem ports p) z refl)
