-- Functions of lists, for any element.
use Rattle.std.specs.Prelude.{ℕ, zero, suc, ◌+◌, Bool, true, false, ◌&&◌, List, [], ◌∷◌, ◌++◌, take, drop, eqb}
use Rattle.std.specs.List.{list_all, list_any}
use Rattle.lists.specs.Choice.{least}

module _ {A : Type 0} where
  abbrev pub all : (A → Bool) → List A → Bool
  all = list_all

  abbrev pub any : (A → Bool) → List A → Bool
  any = list_any

module _ {ℓ} {A : Type ℓ} where
  -- the sum of a number of each element
  abbrev pub sum_by : (A → ℕ) → List A → ℕ
  sum_by f [] = 0
  sum_by f (a ∷ l) = f a + sum_by f l

  -- the lowest number of an element, where 0 is none
  abbrev pub least_by : (A → ℕ) → List A → ℕ
  least_by f [] = 0
  least_by f (a ∷ l) = least (f a) (least_by f l)

  -- size elements from start on
  abbrev pub part : ℕ → ℕ → List A → List A
  part start size l = take size (drop start l)

module _ {ℓ ℓ'} {A : Type ℓ} {B : Type ℓ'} where
  -- two lists, element by element, as long as the shorter
  abbrev pub pairs : List A → List B → List (A × B)
  pairs [] b = []
  pairs (x ∷ a) [] = []
  pairs (x ∷ a) (y ∷ b) = (x, y) ∷ pairs a b

  -- the lists of each element, one after the other
  abbrev pub concat_map : (A → List B) → List A → List B
  concat_map f [] = []
  concat_map f (a ∷ l) = f a ++ concat_map f l

-- first, first + 1 and so on, so many
abbrev pub up_from : ℕ → ℕ → List ℕ
up_from first zero = []
up_from first (suc n) = first ∷ up_from (suc first) n

-- the two lists are equal
abbrev pub same_list : List ℕ → List ℕ → Bool
same_list [] [] = true
same_list [] (b ∷ m) = false
same_list (a ∷ l) [] = false
same_list (a ∷ l) (b ∷ m) = eqb a b && same_list l m
