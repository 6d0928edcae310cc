-- Powers of two as `two_to` gives them.
use mathlib.Core.Path.{◌≡◌, ap, ◌∙◌}
use Prim.Native.Nat.{ℕ, ◌^◌, ◌≤◌, min}
use native.Mathlib.Omega.{arith}

pub two_to_is : (k r : ℕ) → k ≤ 32 → r ≡ 2 ^ min k 32 → r ≡ 2 ^ k
two_to_is k r h e =
    let m : min k 32 ≡ k = omega arith in
    e ∙ ap (λ (n : ℕ). 2 ^ n) m
