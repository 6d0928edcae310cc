-- Laws of tests in a row, and of the relations of a port.
use mathlib.Core.Path.{◌≡◌, refl, sym, ap, ◌∙◌}
use Prim.Native.Nat.{ℕ}
use mathlib.Core.Bool.{Bool, true, false, not, ◌&&◌, ◌||◌}
use mathlib.Core.List.{List, [], ◌∷◌}
use lib.Dec.{ltb, leb}
use borrow.Author.Tests.{le-leb, lt-leb, lt-ltb, le-ltb}
use Rattle.lists.specs.Lists.{any, all}
use Rattle.lists.proofs.Choice.{cases_le}
use Rattle.rules.specs.Logic.{are_trits}
use Rattle.rules.specs.Conditions.{bad_relation}

-- the test that holds, and one that does not
pub found : {a : Bool} (b : Bool) → a ≡ true → true ≡ a || b
found b e = sym (ap (λ (t : Bool). t || b) e)

pub passed : {a b r : Bool} → a ≡ false → r ≡ b → r ≡ a || b
passed {a} {b} e q = q ∙ sym (ap (λ (t : Bool). t || b) e)

-- a relation's code is good where a trit's is
high : (a n : ℕ) → ltb n a ≡ not (leb a n)
high a n = cases_le a n (λ h. le-ltb n a h ∙ sym (ap not (le-leb a n h))) (λ h. lt-ltb n a h ∙ sym (ap not (lt-leb a n h)))

not_and : (a b : Bool) → not a || not b ≡ not (a && b)
not_and true b = refl
not_and false b = refl

pub relations_trits : (l : List ℕ) → any bad_relation l ≡ not (are_trits l)
unfolding are_trits bad_relation
relations_trits [] = refl
relations_trits (a ∷ l) = (λ i. high a 2 i || relations_trits l i) ∙ not_and (leb a 2) (all (λ (t : ℕ). leb t 2) l)
