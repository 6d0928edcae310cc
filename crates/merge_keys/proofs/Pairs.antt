-- A walk over two columns of keys.
use mathlib.Core.Path.{◌≡◌, sym, ap, ◌∙◌}
use Prim.Native.Nat.{ℕ, ◌+◌, ◌-◌, ◌<◌, ◌≤◌, min}
use native.Mathlib.Omega.{arith}
use mathlib.Core.Logic.{◌⊎◌, ⊎_elim}
use mathlib.Core.List.{List, ◌∷◌}
use lib.ListN.{length, take, drop, length-drop, get_or}
use lib.Seq.{drop-drop}
use Rattle.std.proofs.lemmas.List.{get_or-drop}
use Rattle.lists.specs.Lists.{pairs}
use Rattle.lists.proofs.Pairs.{pairs_at, pairs_size, take_pairs}
use Rattle.lists.proofs.Parts.{take_most}

-- u and v are left of two columns from i on
pub record Walk (x y : List ℕ) (i : ℕ) (u v : List ℕ) : Type 0 where
  pub first : u ≡ drop i x
  pub second : v ≡ drop i y

-- what is left of a column begins with a
module _ (l : List ℕ) (i a : ℕ) (rest rest' : List ℕ) (e : rest ≡ drop i l) (p : rest ≡ a ∷ rest') where
  inside : i < length l
  inside = omega (arith, length-drop i l, ap length e, ap length p)

  head_is : get_or l i 0 ≡ a
  head_is =
      let q : i + 0 ≡ i = omega arith in
      sym (rw q at (get_or-drop i l 0 0)) ∙ ap (λ (r : List ℕ). get_or r 0 0) (sym e ∙ p)

  rest_is : rest' ≡ drop (i + 1) l
  rest_is = ap (drop 1) (sym p ∙ e) ∙ drop-drop 1 i l

module _ {x y u v : List ℕ} {i : ℕ} (w : Walk x y i u v) where
  module _ {a b : ℕ} {u' v' : List ℕ} (p : u ≡ a ∷ u') (q : v ≡ b ∷ v') where
    pub key_inside : i < length (pairs x y)
    key_inside = omega (arith, pairs_size x y, inside x i a u u' w.first p, inside y i b v v' w.second q)

    pub key_is : get_or (pairs x y) i (0, 0) ≡ (a, b)
    key_is =
        pairs_at x y i 0 0 (inside x i a u u' w.first p) (inside y i b v v' w.second q)
        ∙ λ j. (head_is x i a u u' w.first p j, head_is y i b v v' w.second q j)

    pub walk_on : Walk x y (i + 1) u' v'
    walk_on = record { first = rest_is x i a u u' w.first p; second = rest_is y i b v v' w.second q }

  -- where a column has nothing left, all keys were seen
  pub all_seen : (length u ≡ 0) ⊎ (length v ≡ 0) → length (pairs x y) ≤ i
  all_seen h =
      let n : (length (drop i x) ≡ length x - i) × (length (drop i y) ≡ length y - i) = (length-drop i x, length-drop i y) in
      ⊎_elim
      (λ e. omega (arith, pairs_size x y, n, ap length w.first, e))
      (λ e. omega (arith, pairs_size x y, n, ap length w.second, e))
      h

-- as many as there are of the first keys
pub first_is : (x y : List ℕ) (most n : ℕ) → n ≡ min most (length (pairs x y)) → pairs (take n x) (take n y) ≡ take most (pairs x y)
first_is x y most n e = sym (take_pairs n x y) ∙ ap (λ (k : ℕ). take k (pairs x y)) e ∙ take_most most (pairs x y)
