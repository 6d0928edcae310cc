-- Laws that show the definitions' other reading: a run of equal selects from the front, and the walk as the roles of an address.
use mathlib.Core.Path.{◌≡◌, refl, ap}
use Prim.Native.Nat.{ℕ, zero, suc, ◌-◌, ◌/◌, ◌%◌}
use mathlib.Core.Bool.{Bool, true, false, ◌||◌}
use mathlib.Core.List.{List, [], ◌∷◌}
use lib.ListN.{length, drop}
use lib.Dec.{eqb, eqb-suc-zero, leb-suc-suc, leb-zero}
use Rattle.lists.specs.Choice.{when◌then◌else◌}
use Rattle.rules.specs.Value.{Value}
use Rattle.rules.specs.Merge.{longer, runs}
use Rattle.rules.specs.Geometry.{Spot, to_chunk, hard_left, under, walk}
use Rattle.rules.specs.Swizzle.{role_of, is_chunk, wide_after, rows_after, roles, spot_by}

-- how many neighbours after s equal it
abbrev pub lead : ℕ → List ℕ → ℕ
lead s [] = 0
lead s (t ∷ l) = when eqb s t then suc (lead t l) else 0

step : (b : Bool) (t : ℕ) (l : List ℕ) → runs (t ∷ l) ≡ suc (lead t l) ∷ runs (drop (lead t l) l)
    → longer b (runs (t ∷ l)) ≡ suc (when b then suc (lead t l) else 0) ∷ runs (drop (when b then suc (lead t l) else 0) (t ∷ l))
unfolding longer
step true t l h = ap (longer true) h
step false t l h = refl

-- the first run and the runs after it: what a loop that looks for a run's end computes
pub runs_lead : (s : ℕ) (l : List ℕ) → runs (s ∷ l) ≡ suc (lead s l) ∷ runs (drop (lead s l) l)
unfolding runs longer
runs_lead s [] = refl
runs_lead s (t ∷ l) = step (eqb s t) t l (runs_lead t l)

-- a bit of a row number has a chunk's role, or a row's
row_step : (b : Bool) (mask hard bit : ℕ) (p : ℕ → Spot) (q : ℕ → ℕ → Spot) → ((h : ℕ) → p h ≡ q 0 h) → eqb (mask % 2) 1 ≡ b
    → under (b || eqb hard 0) bit (p (hard_left (b || eqb hard 0) hard))
    ≡ under (is_chunk (role_of mask 0 hard)) bit (q (wide_after (role_of mask 0 hard) 0) (rows_after (role_of mask 0 hard) hard))
unfolding role_of is_chunk wide_after rows_after hard_left
row_step true mask hard bit p q h e = rw e (ap (under true bit) (h hard))
row_step false mask zero bit p q h e = rw e (ap (under true bit) (h 0))
row_step false mask (suc n) bit p q h e = rw (e, eqb-suc-zero, leb-suc-suc, leb-zero) (ap (under false bit) (h (suc n - 1)))

pub walk-roles : (a : Value) (mask hard row : ℕ) → walk (length a) mask hard row ≡ spot_by (roles mask 0 hard a) row
unfolding walk spot_by roles to_chunk
walk-roles [] mask hard row = refl
walk-roles (x ∷ a) mask hard row =
    row_step (eqb (mask % 2) 1) mask hard (row % 2) (λ h. walk (length a) (mask / 2) h (row / 2)) (λ w h. spot_by (roles (mask / 2) w h a) (row / 2))
    (λ h. walk-roles a (mask / 2) h (row / 2)) refl
