-- Things read off two lists, one after the other: each takes its own number of elements of each list, from where the one before ended.
use Rattle.std.specs.Prelude.{ℕ, List, [], ◌∷◌, take, drop}

module _ {P A B R : Type 0} (s t : P → ℕ) (read : P → List A → List B → R) where
  -- p reads s p elements of l and t p elements of m
  abbrev pub views : List P → List A → List B → List R
  views [] l m = []
  views (p ∷ ps) l m = read p (take (s p) l) (take (t p) m) ∷ views ps (drop (s p) l) (drop (t p) m)
