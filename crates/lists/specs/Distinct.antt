-- The elements of a list that differ by a test `same`, in order of first appearance, and the place of each element among them.
use Rattle.std.specs.Prelude.{ℕ, suc, Bool, List, [], ◌∷◌}
use Rattle.lists.specs.Choice.{when◌then◌else◌}

module _ {ℓ} {A : Type ℓ} (same : A → A → Bool) where
  -- the place of the first element that is the same as x, or the length where none is
  abbrev pub place_in : A → List A → ℕ
  place_in x [] = 0
  place_in x (y ∷ l) = when same y x then 0 else suc (place_in x l)

  -- the list with x at its end, unless an element is the same as x
  abbrev pub with_new : A → List A → List A
  with_new x [] = x ∷ []
  with_new x (y ∷ l) = when same y x then y ∷ l else y ∷ with_new x l

  -- the elements kept of l after those kept already, and each element's place among them
  abbrev pub kept_from_of : List A → List A → List A
  kept_from_of acc [] = acc
  kept_from_of acc (x ∷ l) = kept_from_of (with_new x acc) l

  abbrev pub places_from : List A → List A → List ℕ
  places_from acc [] = []
  places_from acc (x ∷ l) = place_in x acc ∷ places_from (with_new x acc) l

  abbrev pub kept : List A → List A
  kept l = kept_from_of [] l

  abbrev pub places : List A → List ℕ
  places l = places_from [] l
