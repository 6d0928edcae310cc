-- A trace that logs nothing.
use mathlib.Core.Path.{◌≡◌, refl}
use Prim.Native.Nat.{ℕ}
use Rattle.rules.specs.Log.{done}

pub done_value : {A : Type 0} (a : A) (n : ℕ) → (done a n).value ≡ a
unfolding done
done_value a n = refl
