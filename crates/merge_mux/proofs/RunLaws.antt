-- The runs of equal neighbours, the first of them first.
use mathlib.Core.Path.{subst, ◌≡◌, refl, sym, ap, ◌∙◌}
use Prim.Native.Nat.{ℕ, suc, ◌+◌, ◌<◌, ◌≤◌}
use native.Mathlib.Numerals.{add-one}
use native.Mathlib.Omega.{arith}
use mathlib.Core.Bool.{Bool, true, false, not}
use mathlib.Core.List.{List, [], ◌∷◌}
use lib.ListN.{length, drop, get_or, length-drop}
use lib.Seq.{drop-cons, drop-drop}
use lib.Dec.{eqb}
use borrow.Author.Tests.{eqb-true, eqb-false, eq-eqb, ne_eqb}
use Rattle.std.specs.List.{position}
use Rattle.std.specs.Option.{unwrap_or}
use Rattle.lists.specs.Distinct.{place_in}
use Rattle.lists.proofs.Distinct.{place_miss, place_le}
use Rattle.lists.proofs.Zips.{found_place}
use Rattle.rules.specs.Merge.{longer, runs}
use Rattle.merge_mux.specs.Runs.{run_at}

-- the first element that differs
abbrev pub differs : ℕ → ℕ → Bool
differs y x = not (eqb y x)

runs_one : (s : ℕ) → runs (s ∷ []) ≡ 1 ∷ runs []
unfolding runs
runs_one s = refl

runs_two : (s t : ℕ) (l : List ℕ) → runs (s ∷ t ∷ l) ≡ longer (eqb s t) (runs (t ∷ l))
unfolding runs
runs_two s t l = refl

-- a list and its neighbours: p is the place of the first that differs from its head
joined : (s t : ℕ) (l : List ℕ) → s ≡ t → runs (t ∷ l) ≡ suc (place_in differs t l) ∷ runs (drop (place_in differs t l) l)
    → longer true (runs (t ∷ l)) ≡ suc (place_in differs s (t ∷ l)) ∷ runs (drop (place_in differs s (t ∷ l)) (t ∷ l))
unfolding longer
joined s t l e h =
    subst (λ (z : ℕ). longer true (runs (t ∷ l)) ≡ suc (place_in differs z (t ∷ l)) ∷ runs (drop (place_in differs z (t ∷ l)) (t ∷ l))) (sym e)
    (rw (h, eq-eqb t t refl))

parted : (s t : ℕ) (l : List ℕ) → (s ≡ t → ⊥) → longer false (runs (t ∷ l)) ≡ suc (place_in differs s (t ∷ l)) ∷ runs (drop (place_in differs s (t ∷ l)) (t ∷ l))
unfolding longer
parted s t l f = let e = ne_eqb t s (λ z. f (sym z)) in rw e

by_test : (b : Bool) (s t : ℕ) (l : List ℕ) → eqb s t ≡ b → runs (t ∷ l) ≡ suc (place_in differs t l) ∷ runs (drop (place_in differs t l) l)
    → longer b (runs (t ∷ l)) ≡ suc (place_in differs s (t ∷ l)) ∷ runs (drop (place_in differs s (t ∷ l)) (t ∷ l))
by_test true s t l e h = joined s t l (eqb-true s t e) h
by_test false s t l e h = parted s t l (eqb-false s t e)

-- the first run ends at the first element that differs
runs_split : (s : ℕ) (l : List ℕ) → runs (s ∷ l) ≡ suc (place_in differs s l) ∷ runs (drop (place_in differs s l) l)
runs_split s [] = runs_one s
runs_split s (t ∷ l) = runs_two s t l ∙ by_test (eqb s t) s t l refl (runs_split t l)

run_length : (s : ℕ) (l : List ℕ) → run_at (s ∷ l) ≡ suc (place_in differs s l)
unfolding run_at
run_length s l = ap (λ (r : List ℕ). get_or r 0 0) (runs_split s l)

runs_of : (l : List ℕ) (x : ℕ) (m : List ℕ) → l ≡ x ∷ m → runs l ≡ run_at l ∷ runs (drop (run_at l) l)
runs_of l x m e = rw (e, run_length x m) (runs_split x m)

-- the runs from i on: the first of them, and those after it
module _ (s : List ℕ) (i : ℕ) (h : i < length s) where
  cut : drop i s ≡ get_or s i 0 ∷ drop (i + 1) s
  cut = drop-cons s i 0 h ∙ ap (λ (n : ℕ). get_or s i 0 ∷ drop n s) (sym (add-one i))

  run_from : i + run_at (drop i s) ≡ i + 1 + place_in differs (get_or s i 0) (drop (i + 1) s)
  run_from = ap (λ (l : List ℕ). i + run_at l) cut ∙ ap (λ (n : ℕ). i + n) (run_length (get_or s i 0) (drop (i + 1) s)) ∙ omega arith

  pub runs_from_lem : runs (drop i s) ≡ run_at (drop i s) ∷ runs (drop (i + run_at (drop i s)) s)
  runs_from_lem = runs_of (drop i s) _ _ cut ∙ ap (λ (l : List ℕ). run_at (drop i s) ∷ runs l) (drop-drop (run_at (drop i s)) i s)

-- the end of a run that is looked for with `position`
pub run_ends : (s : List ℕ) (i : ℕ) → i < length s → run_at (drop i s) ≡ unwrap_or (position (λ y. not (eqb y (get_or s i 0))) (drop i s)) (length (drop i s))
run_ends s i h =
    let x = get_or s i 0 in
    let e : i + place_in differs x (drop i s) ≡ i + 1 + place_in differs x (drop (i + 1) s) = place_miss differs x s i 0 h (let q = eq-eqb x x refl in rw q) in
    let r : run_at (drop i s) ≡ place_in differs x (drop i s) = omega (arith, run_from s i h, e) in
    r ∙ sym (found_place differs x (drop i s))

-- a run has an element at least, and ends where the list does at most
pub run_within : (s : List ℕ) (i : ℕ) → i < length s → (0 < run_at (drop i s)) × (i + run_at (drop i s) ≤ length s)
run_within s i h =
    let p = place_le differs (get_or s i 0) (drop (i + 1) s) in
    let q = length-drop (i + 1) s in
    let e = run_from s i h in
    (omega arith, omega arith)
