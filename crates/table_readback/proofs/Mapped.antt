-- What `map_err` and `?` make of a result.
use mathlib.Core.Path.{◌≡◌, refl}
use Prim.Native.Nat.{ℕ}
use native.Mathlib.Omega.{arith}
use Rattle.std.specs.Prelude.{Result, Ok, Err}
use Rattle.std.specs.Result.{MatchResult}
use Rattle.table_readback.specs.declared.Refused.{Refused}

module _ {A E : Type 0} where
  pub passed : (r : Result A E) (x : A) → MatchResult r (λ y. ◌≡◌ {A = Result A Refused} (Ok x) (Ok y)) (λ e. ⊥) → r ≡ Ok x
  passed (Ok y) x h = cc
  passed (Err e) x h = absurd h

  pub failed : (f : E → Refused) (r : Result A E) (x : Refused) → MatchResult r (λ y. ◌≡◌ {A = Result A Refused} (Err x) (Ok y)) (λ e. x ≡ f e) → (e : E) × ((r ≡ Err e) × (x ≡ f e))
  failed f (Ok y) x h = let z : ◌≡◌ {A = ℕ} 0 1 = cc in absurd (omega arith)
  failed f (Err e) x h = (e, (refl, h))
