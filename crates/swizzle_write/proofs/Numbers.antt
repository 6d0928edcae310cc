-- The bits of a number, lowest first.
use mathlib.Core.Path.{◌≡◌, sym, ap, ◌∙◌}
use Prim.Native.Nat.{ℕ, suc, ◌+◌, ◌-◌, ◌/◌, ◌%◌, ◌<◌, ◌≤◌}
use native.Mathlib.Numerals.{add-one}
use native.Mathlib.Omega.{arith}
use mathlib.Core.List.{List, [], ◌∷◌, ◌++◌, append_assoc, append-nil}
use lib.ListN.{length, take, set}
use lib.Seq.{take_all, take-suc-set}
use Rattle.rules.specs.Value.{from_uint}

module _ (out : List ℕ) (size i left x : ℕ) (e : take i out ++ from_uint (size - i) left ≡ from_uint size x) where
  pub uint_turn : i < size → length out ≡ size → take (i + 1) (set out i (left % 2)) ++ from_uint (size - (i + 1)) (left / 2) ≡ from_uint size x
  unfolding from_uint
  uint_turn h s =
      let m : size - i ≡ suc (size - (i + 1)) = omega arith in
      let n : i < length out = omega arith in
      rw (add-one, take-suc-set out i (left % 2) n, append_assoc (take i out) (left % 2 ∷ []) (from_uint (size - suc i) (left / 2)))
      (ap (λ (k : ℕ). take i out ++ (left % 2 ∷ from_uint (size - k) (left / 2))) (sym (add-one i))
      ∙ ap (λ (k : ℕ). take i out ++ from_uint k left) (sym m) ∙ e)

  pub uint_end : size ≤ i → length out ≡ size → out ≡ from_uint size x
  unfolding from_uint
  uint_end h s =
      let z : size - i ≡ 0 = omega arith in
      sym (ap (λ (k : ℕ). take i out ++ from_uint k left) z ∙ append-nil (take i out) ∙ take_all i out (omega arith)) ∙ e
