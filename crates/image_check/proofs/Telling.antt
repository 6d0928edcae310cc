-- What the answers that `check_layout` takes by `ok()` tell.
use Prim.Native.Nat.{ℕ}
use mathlib.Core.Path.{◌≡◌, sym, ap, ◌∙◌}
use mathlib.Core.Logic.{◌≢◌}
use mathlib.Core.Bool.{true, false}
use Rattle.std.specs.Prelude.{Result, Ok, Err, Some, None}
use Rattle.std.specs.Result.{result_ok}
use Rattle.rules.specs.Refusal.{number, number_of}
use Rattle.rules.specs.declared.numbers.Refusal.{Refusal}
use Rattle.rules.specs.Geometry.{Layout}
use Rattle.rules.specs.Beside.Shape.{shape_call, shape_of}
use Rattle.rules.proofs.Answers.{number_nonzero}
use Rattle.rules.proofs.GoodLayouts.{layout_too_large}
use Rattle.rules.proofs.Shaping.{shape_told, shape_not_told}
use Rattle.image_geometry.specs.declared.Shape.{Shape}
use Rattle.image_geometry.specs.View.{shape_by, measured_of}

module _ (q : Layout) where
  pub not_measured : (r : Result Shape Refusal) → measured_of r ≡ shape_call q → None ≡ result_ok r → layout_too_large q ≡ true
  not_measured (Ok s) e n = absurd cc
  not_measured (Err k) e n = (shape_not_told q (number k) e).1

  pub measured : (r : Result Shape Refusal) (s : Shape) → measured_of r ≡ shape_call q → Some s ≡ result_ok r → (layout_too_large q ≡ false) × (shape_by s ≡ shape_of q)
  measured (Ok t) s e n =
      let f : s ≡ t = cc in
      let m = shape_told q (shape_by t) e in
      (m.0, ap shape_by f ∙ m.1)
  measured (Err k) s e n = absurd cc

pub refuses : (n : ℕ) (r : Result (Unit {0}) Refusal) → number_of r ≡ n → None ≡ result_ok r → n ≢ 0
refuses n (Ok u) e h = absurd cc
refuses n (Err k) e h = λ z. number_nonzero k (e ∙ z)

pub passes : (n : ℕ) (r : Result (Unit {0}) Refusal) (u : Unit {0}) → number_of r ≡ n → Some u ≡ result_ok r → n ≡ 0
passes n (Ok u) v e h = sym e
passes n (Err k) v e h = absurd cc
