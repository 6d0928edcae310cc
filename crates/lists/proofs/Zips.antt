-- The library's `zip` and `position`, in the words of `pairs` and `place_in`.
use mathlib.Core.Path.{◌≡◌, refl, sym, ap, ◌∙◌}
use mathlib.Core.Bool.{Bool, true, false, cond}
use Prim.Native.Nat.{ℕ, suc, ◌+◌, ◌≤◌}
use native.Mathlib.Omega.{arith}
use mathlib.Core.List.{List, [], ◌∷◌}
use lib.Dec.{ltb}
use lib.ListN.{length}
use borrow.Author.Tests.{ltb-false}
use Rattle.std.specs.Prelude.{None, Some}
use Rattle.std.specs.List.{position, position_or_len, zip}
use Rattle.std.specs.Option.{unwrap_or}
use Rattle.std.proofs.lemmas.List.Recursion.{is_position_or_len}
use Rattle.std.proofs.lemmas.List.Sums.{prefix_len-le-length}
use Rattle.lists.specs.Choice.{when◌then◌else◌}
use Rattle.lists.specs.Distinct.{place_in}
use Rattle.lists.specs.Lists.{pairs}

pub zip_pairs : {A B : Type 0} (a : List A) (b : List B) → zip a b ≡ pairs a b
zip_pairs [] b = refl
zip_pairs (x ∷ a) [] = refl
zip_pairs {A} {B} (x ∷ a) (y ∷ b) = ap (λ (l : List (A × B)). (x, y) ∷ l) (zip_pairs a b)

module _ {A : Type 0} (same : A → A → Bool) (x : A) where
  place_is : (l : List A) → place_in same x l ≡ position_or_len (λ y. same y x) l
  place_is l = is_position_or_len (place_in same x) (λ y. same y x) refl (λ y m. by (same y x) (place_in same x m)) l
    where
      by : (t : Bool) (n : ℕ) → (when t then 0 else suc n) ≡ cond t 0 (1 + n)
      by true n = refl
      by false n = omega arith

  -- the place is that of the first element that is the same, or the length where none is
  pub found_place : (l : List A) → unwrap_or (position (λ y. same y x) l) (length l) ≡ place_in same x l
  found_place l = unwrapped (position_or_len (λ y. same y x) l) (length l) (prefix_len-le-length _ l) ∙ sym (place_is l)
    where
      unwrapped : (n k : ℕ) → n ≤ k → unwrap_or (cond (ltb n k) (Some n) None) k ≡ n
      unwrapped n k h = on (ltb n k) refl
        where
          on : (t : Bool) → ltb n k ≡ t → unwrap_or (cond t (Some n) None) k ≡ n
          on true e = refl
          on false e = omega (arith, h, ltb-false n k e)
