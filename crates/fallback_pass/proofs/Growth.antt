-- Nets and controls that are good stay good when the next free net grows.
use mathlib.Core.Path.{◌≡◌, refl, ap}
use Prim.Native.Nat.{ℕ, ◌≤◌}
use native.Mathlib.Omega.{arith}
use mathlib.Core.Bool.{Bool, true, false, not, ◌&&◌, ◌||◌}
use mathlib.Core.List.{[], ◌∷◌}
use lib.Dec.{eqb, ltb, leb}
use borrow.Author.Tests.{ltb-true, lt-ltb, not-false}
use Rattle.lists.proofs.Choice.{and_true, or_false, or_both}
use Rattle.rules.specs.Limits.{X}
use Rattle.rules.specs.Value.{Value, first_cell, is_cell_net, good_net, good_value, Control, Pos, Neg, good_control}
use Rattle.rules.specs.Cell.{WritePort}
use Rattle.rules.specs.Conditions.{bad_value, bad_control, bad_write_nets}

or_grows : (a : Bool) {b c : Bool} → (b ≡ true → c ≡ true) → (a || b) ≡ true → (a || c) ≡ true
or_grows true f e = refl
or_grows false f e = f e

module _ (next next' : ℕ) (h : next ≤ next') where
  below_grows : (n : ℕ) → ltb n next ≡ true → ltb n next' ≡ true
  below_grows n e = lt-ltb n next' (omega (arith, ltb-true n next e))

  cell_grows : (n : ℕ) → is_cell_net next n ≡ true → is_cell_net next' n ≡ true
  unfolding is_cell_net
  cell_grows n e =
      let a = and_true (leb first_cell n) _ e in
      let b = and_true (ltb n next) _ a.1 in
      λ i. a.0 i && (below_grows n b.0 i && b.1 i)

  net_grows : (n : ℕ) → good_net next n ≡ true → good_net next' n ≡ true
  unfolding good_net
  net_grows n e = or_grows (ltb n first_cell) (λ f. or_grows (eqb n X) (cell_grows n) f) e

  pub value_grows : (v : Value) → good_value next v ≡ true → good_value next' v ≡ true
  unfolding good_value
  value_grows [] e = refl
  value_grows (n ∷ v) e =
      let a = and_true (good_net next n) _ e in
      λ i. net_grows n a.0 i && value_grows v a.1 i

  control_grows : (c : Control) → good_control next c ≡ true → good_control next' c ≡ true
  unfolding good_control
  control_grows (Pos n) e = or_grows (ltb n first_cell) (cell_grows n) e
  control_grows (Neg n) e = cell_grows n e

  pub bad_value_lem : (v : Value) → bad_value next v ≡ false → bad_value next' v ≡ false
  unfolding bad_value
  bad_value_lem v e = ap not (value_grows v (not-false _ e))

  bad_control_lem : (c : Control) → bad_control next c ≡ false → bad_control next' c ≡ false
  unfolding bad_control
  bad_control_lem c e = ap not (control_grows c (not-false _ e))

  pub bad_write : (p : WritePort) → bad_write_nets next p ≡ false → bad_write_nets next' p ≡ false
  unfolding bad_write_nets
  bad_write p e =
      let a = or_false (bad_value next p.addr) _ e in
      let b = or_false (bad_value next p.bits) _ a.1 in
      let c = or_false (bad_value next p.mask) _ b.1 in
      or_both (bad_value_lem p.addr a.0) (or_both (bad_value_lem p.bits b.0) (or_both (bad_value_lem p.mask c.0) (bad_control_lem p.clock c.1)))
