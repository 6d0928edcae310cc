-- Things read off a list, put back one after the other, are the list's front again.
use mathlib.Core.Path.{◌≡◌, refl, sym, ap, ◌∙◌}
use Prim.Native.Nat.{ℕ, ◌+◌, ◌≤◌}
use native.Mathlib.Omega.{arith}
use mathlib.Core.List.{List, [], ◌∷◌, ◌++◌}
use lib.ListN.{length, take, drop, length-drop}
use lib.Seq.{take-add, take_all, drop-drop, length-take-le}
use Rattle.lists.specs.Lists.{sum_by, part, concat_map}
use Rattle.lists.specs.Views.{views}

-- three parts, each from where the one before ends, as long as the list
pub three_parts : {A : Type 0} (a b c : ℕ) (l : List A) → length l ≡ a + b + c → part 0 a l ++ (part a b l ++ part (a + b) c l) ≡ l
three_parts a b c l e =
    ap (λ r. take a l ++ (take b (drop a l) ++ take c r)) (sym (drop-drop b a l))
    ∙ ap (λ r. take a l ++ r) (sym (take-add b c (drop a l)))
    ∙ sym (take-add a (b + c) l)
    ∙ take_all (a + (b + c)) l (omega arith)

module _ {P A B R : Type 0} (s t : P → ℕ) (read : P → List A → List B → R) (flat : R → List A)
    (e : (p : P) (x : List A) (y : List B) → length x ≡ s p → flat (read p x y) ≡ x) where
  pub views-flat : (ps : List P) (l : List A) (m : List B) → sum_by s ps ≤ length l → concat_map flat (views s t read ps l m) ≡ take (sum_by s ps) l
  views-flat [] l m h = refl
  views-flat (p ∷ ps) l m h =
      let k : length (take (s p) l) ≡ s p = length-take-le (s p) l (omega arith) in
      let n : sum_by s ps ≤ length (drop (s p) l) = omega (arith, length-drop (s p) l) in
      (λ i. e p (take (s p) l) (take (t p) m) k i ++ views-flat ps (drop (s p) l) (drop (t p) m) n i)
      ∙ sym (take-add (s p) (sum_by s ps) l)
