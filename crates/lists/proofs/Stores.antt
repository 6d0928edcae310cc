-- Runs of stores as the calls of code see them: each list by an equation with the one before.
use mathlib.Core.Path.{◌≡◌, sym, ap, ◌∙◌}
use Prim.Native.Nat.{ℕ, ◌+◌, ◌≤◌}
use native.Mathlib.Nat.{zero-add}
use mathlib.Core.List.{List, ◌++◌}
use lib.ListN.{length, take, length-append}
use lib.Seq.{sets}
use Rattle.lists.proofs.Store.{sets_at, part_sets}

module _ {ℓ} {A : Type ℓ} where
  -- two runs, the second where the first ends, are one
  pub sets_then : (l l1 l2 : List A) (i j : ℕ) (vs ws : List A) → l1 ≡ sets l i vs → l2 ≡ sets l1 j ws → j ≡ i + length vs → l2 ≡ sets l i (vs ++ ws)
  sets_then l l1 l2 i j vs ws e f g = f ∙ ap (λ (m : List A). sets m j ws) e ∙ sets_at l i j vs ws g

  -- as many as three parts have
  pub length_three : (x a b : List A) → length x + (length a + length b) ≡ length (x ++ (a ++ b))
  length_three x a b = sym (length-append x (a ++ b) ∙ ap (λ (n : ℕ). length x + n) (length-append a b))

  -- what was stored at the front
  pub take_stored : (l x ws : List A) (n : ℕ) → x ≡ sets l 0 ws → n ≡ length ws → n ≤ length l → take n x ≡ ws
  take_stored l x ws n e f h =
      ap (take n) e ∙ ap (λ (k : ℕ). take k (sets l 0 ws)) f ∙ part_sets l 0 ws (rw (zero-add, ← f) h)
