-- The runs of a mask in one pass are those of its rows.
use mathlib.Core.Path.{◌≡◌, refl, sym, ap, ◌∙◌}
use Prim.Native.Nat.{ℕ, zero, suc, ◌+◌, ◌-◌, ◌*◌, ◌<◌, ◌≤◌}
use native.Mathlib.Nat.{zero-mul, suc-mul}
use native.Mathlib.Omega.{arith}
use mathlib.Core.Bool.{Bool, true, false, not}
use mathlib.Core.List.{List, [], ◌∷◌, ◌++◌}
use lib.ListN.{length, take, drop, length-take, length-drop, take-append-drop}
use lib.Dec.{eqb, ltb}
use borrow.Author.Tests.{le-ltb}
use Rattle.lists.proofs.Choice.{if_false}
use Rattle.rules.specs.Log.{flag}
use Rattle.rules.specs.Merge.{longer, runs}
use Rattle.fallback_masks.specs.Sizes.{runs_from, max_mask_nets, mask_runs}
use Rattle.fallback_masks.proofs.Alike.{row_runs}

-- ---- a step
pub from_none : (w left last : ℕ) → runs_from w left last [] ≡ 0
unfolding runs_from
from_none w zero last = refl
from_none w (suc left) last = refl

pub from_row : (w last n : ℕ) (l : List ℕ) → runs_from w 0 last (n ∷ l) ≡ suc (runs_from w (w - 1) n l)
unfolding runs_from
from_row w last n l = refl

pub from_next : (w left last n : ℕ) (l : List ℕ) → runs_from w (suc left) last (n ∷ l) ≡ flag (not (eqb last n)) + runs_from w left n l
unfolding runs_from
from_next w left last n l = refl

-- the net before a row does not matter
from_any : (w last : ℕ) (l : List ℕ) → runs_from w 0 last l ≡ runs_from w 0 0 l
from_any w last [] = from_none w 0 last ∙ sym (from_none w 0 0)
from_any w last (n ∷ l) = from_row w last n l ∙ sym (from_row w 0 n l)

-- ---- the rest of a row
grown : (t : Bool) (ns : List ℕ) → 0 < length ns → length (longer t ns) ≡ flag (not t) + length ns
unfolding longer flag
grown true [] h = absurd (omega arith)
grown true (n ∷ ns) h = omega arith
grown false ns h = omega arith

longer_some : (t : Bool) (ns : List ℕ) → 0 < length (longer t ns)
unfolding longer
longer_some true [] = omega arith
longer_some true (n ∷ ns) = omega arith
longer_some false ns = omega arith

runs_some : (x : ℕ) (l : List ℕ) → 0 < length (runs (x ∷ l))
unfolding runs
runs_some x [] = omega arith
runs_some x (y ∷ l) = longer_some (eqb x y) (runs (y ∷ l))

runs_next : (x y : ℕ) (l : List ℕ) → length (runs (x ∷ y ∷ l)) ≡ flag (not (eqb x y)) + length (runs (y ∷ l))
unfolding runs
runs_next x y l = grown (eqb x y) (runs (y ∷ l)) (runs_some y l)

runs_one : (x : ℕ) → length (runs (x ∷ [])) ≡ 1
unfolding runs
runs_one x = refl

rest_of_row : (w last : ℕ) (u rest : List ℕ) → suc (runs_from w (length u) last (u ++ rest)) ≡ length (runs (last ∷ u)) + runs_from w 0 0 rest
rest_of_row w last [] rest = omega (arith, from_any w last rest, runs_one last)
rest_of_row w last (n ∷ u) rest = omega (arith, from_next w (length u) last n (u ++ rest), rest_of_row w n u rest, runs_next last n u)

row_of : (w : ℕ) (r rest : List ℕ) → length r ≡ w → 0 < w → runs_from w 0 0 (r ++ rest) ≡ length (runs r) + runs_from w 0 0 rest
row_of w [] rest e h = absurd (omega arith)
row_of w (x ∷ u) rest e h =
    let l : w - 1 ≡ length u = omega arith in
    from_row w 0 x (u ++ rest) ∙ ap (λ (k : ℕ). suc (runs_from w k x (u ++ rest))) l ∙ rest_of_row w x u rest

pub rows_of : (w n : ℕ) (l : List ℕ) → length l ≡ n * w → 0 < w → runs_from w 0 0 l ≡ row_runs w n l
unfolding row_runs
rows_of w zero [] e h = from_none w 0 0
rows_of w zero (x ∷ l) e h = absurd (omega (arith, zero-mul w))
rows_of w (suc n) l e h =
    let s : suc n * w ≡ n * w + w = suc-mul n w in
    let t : length (take w l) ≡ w = omega (arith, length-take w l) in
    ap (runs_from w 0 0) (sym (take-append-drop w l)) ∙ row_of w (take w l) (drop w l) t h
    ∙ ap (λ (k : ℕ). length (runs (take w l)) + k) (rows_of w n (drop w l) (omega (arith, length-drop w l)) h)

pub mask_rows : (w n : ℕ) (l : List ℕ) → length l ≡ n * w → length l ≤ max_mask_nets → 0 < w → mask_runs w l ≡ row_runs w n l
unfolding mask_runs
mask_rows w n l e f h = if_false (ltb max_mask_nets (length l)) 0 (runs_from w 0 0 l) (le-ltb max_mask_nets (length l) f) ∙ rows_of w n l e h

-- of rows of two nets, 5 5 and 5 6: the second row starts a run of its own
worked : runs_from 2 0 0 (5 ∷ 5 ∷ 5 ∷ 6 ∷ []) ≡ 3
unfolding runs_from flag
worked = refl
