-- A run of numbers stored one by one.
use mathlib.Core.Path.{◌≡◌, sym, ap, ◌∙◌}
use Prim.Native.Nat.{ℕ, ◌+◌, ◌-◌, ◌<◌, min}
use native.Mathlib.Omega.{arith}
use mathlib.Core.List.{List}
use lib.ListN.{length, take, set}
use lib.Seq.{sets}
use Rattle.lists.specs.Lists.{up_from}
use Rattle.lists.proofs.Store.{copy_turn, copy_done}
use Rattle.lists.proofs.UpFrom.{length_up, up_at}

module _ (out₀ out : List ℕ) (at first n i : ℕ) (e : out ≡ sets out₀ at (take i (up_from first n))) where
  pub run_turn : (number : ℕ) → i < n → number ≡ first + i → set out (at + i) number ≡ sets out₀ at (take (i + 1) (up_from first n))
  run_turn number h f =
      ap (set out (at + i)) (f ∙ sym (up_at first n i 0 h)) ∙ copy_turn out₀ out at i (up_from first n) e 0 (omega (arith, length_up first n))

  pub run-done : i ≡ min n (length out₀ - at) → out ≡ sets out₀ at (up_from first n)
  run-done h = copy_done out₀ out at i (up_from first n) e (omega (arith, h, length_up first n))
