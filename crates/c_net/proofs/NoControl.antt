-- Neg(0), which a polarity or a flag above 1 reads as, is neither a control nor a mux select, so calls refuse it by 4.
use mathlib.Core.Path.{◌≡◌, refl}
use Prim.Native.Nat.{ℕ}
use mathlib.Core.Bool.{false}
use Rattle.rules.specs.Value.{Neg, is_cell_net, good_control, good_select}
use Rattle.rules.specs.Conditions.{bad_control}
use Rattle.rules.specs.Refusals.{control_refusal}
use Rattle.rules.specs.Answers.{Refused, answer_of, inverse_call, is_always_call}

pub no_control_lem : (next : ℕ) → good_control next (Neg 0) ≡ false
unfolding good_control is_cell_net
no_control_lem next = refl

pub no_select : (next : ℕ) → good_select next (Neg 0) ≡ false
unfolding good_select is_cell_net
no_select next = refl

pub inverse_refused : inverse_call (Neg 0) ≡ Refused 4
unfolding inverse_call answer_of control_refusal bad_control good_control is_cell_net
inverse_refused = refl

pub always_refused : (v : ℕ) → is_always_call v (Neg 0) ≡ Refused 4
unfolding is_always_call answer_of control_refusal bad_control good_control is_cell_net
always_refused v = refl
