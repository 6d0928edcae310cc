-- A call without a number takes all its bits.
use mathlib.Core.Path.{◌≡◌, ap, ◌∙◌}
use Prim.Native.Nat.{ℕ, ◌≤◌}
use native.Mathlib.Omega.{arith}
use mathlib.Core.Bool.{not, ◌||◌}
use lib.ListN.{length}
use lib.Seq.{take_all}
use lib.Dec.{ltb, eqb}
use borrow.Author.Tests.{eqb-true, not-false, ltb-false}
use Rattle.lists.specs.Choice.{◌or_else◌}
use Rattle.lists.proofs.Choice.{else_zero, refused_not, or_false}
use Rattle.rules.specs.Limits.{max_merge}
use Rattle.rules.specs.Value.{Value, Control}
use Rattle.rules.specs.Merge.{add_dedup_mux_of, add_bitwise_mux_of}
use Rattle.rules.specs.Conditions.{unequal, long_value}
use Rattle.rules.specs.Refusals.{mux_number, bitwise_lens_number, bitwise_number, result_refusal}
use Rattle.log_requests.proofs.Numbers.{mux_lens}
use Rattle.merge_mux.specs.Results.{limited}
use Rattle.merge_mux.specs.Runs.{bits_taken, bitwise_of}
use Rattle.merge_mux.proofs.Limited.{limited-all}

-- ---- the bits of a call without a number
module _ (next room : ℕ) (c : Control) (a b : Value) (e : (mux_number next c a b or_else result_refusal room a) ≡ 0) where
  lens : (length a ≡ length b) × (length a ≤ max_merge)
  lens = mux_lens next c a b (else_zero _ _ e).0

  pub mux_all : add_dedup_mux_of c (limited a) (limited b) ≡ add_dedup_mux_of c a b
  mux_all = ap (λ x. add_dedup_mux_of c x (limited b)) (limited-all a lens.1) ∙ ap (λ x. add_dedup_mux_of c a x) (limited-all b (omega (arith, lens.0, lens.1)))

-- no number: three values of one length, short enough
module _ (next room : ℕ) (s a b : Value) (e : (bitwise_number next s a b or_else result_refusal room a) ≡ 0) where
  few : (length s ≡ length a) × ((length s ≡ length b) × (length s ≤ max_merge))
  unfolding bitwise_number bitwise_lens_number long_value unequal
  few =
      let l = else_zero (bitwise_lens_number s a b) _ (else_zero (bitwise_number next s a b) _ e).0 in
      let x = refused_not (ltb max_merge (length s) || (ltb max_merge (length a) || ltb max_merge (length b))) 1 _ (omega arith) l.0 in
      let y = refused_not (not (eqb (length s) (length a)) || not (eqb (length s) (length b))) 2 _ (omega arith) x.1 in
      let z = or_false (not (eqb (length s) (length a))) (not (eqb (length s) (length b))) y.0 in
      (eqb-true (length s) (length a) (not-false _ z.0), (eqb-true (length s) (length b) (not-false _ z.1), ltb-false max_merge (length s) (or_false _ _ x.0).0))

  bits : bits_taken s a b ≡ length s
  unfolding bits_taken
  bits = omega (arith, few.0, few.1.0, few.1.1)

  pub bitwise_all : bitwise_of s a b ≡ add_bitwise_mux_of s a b
  unfolding bitwise_of
  bitwise_all = rw (bits, take_all (length s) s (omega arith), take_all (length s) a (omega (arith, few.0)), take_all (length s) b (omega (arith, few.1.0)))
