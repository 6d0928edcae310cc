-- A part of a room that is lent and comes back.
use mathlib.Core.Path.{◌≡◌, sym, ap, ◌∙◌}
use Prim.Native.Nat.{ℕ, ◌+◌, ◌≤◌}
use native.Mathlib.Omega.{arith}
use mathlib.Core.List.{List, ◌++◌, append_assoc}
use lib.ListN.{length, take, drop}
use lib.Seq.{sets, sets-eq, drop-drop}

-- a part of n elements given back at ys
pub part_back : (a n : ℕ) (xs ys : List ℕ) → length ys ≡ n → a + n ≤ length xs → take a xs ++ (ys ++ drop n (drop a xs)) ≡ sets xs a ys
part_back a n xs ys e h =
    let b : a + length ys ≤ length xs = omega arith in
    ap (λ (r : List ℕ). take a xs ++ (ys ++ r)) (drop-drop n a xs ∙ ap (λ (k : ℕ). drop k xs) (back e))
    ∙ sym (append_assoc (take a xs) ys (drop (a + length ys) xs))
    ∙ sym (sets-eq ys xs a b)
  where
    back : length ys ≡ n → a + n ≡ a + length ys
    back e = omega arith
