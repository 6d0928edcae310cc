-- A merge in rooms of any length, and in rooms that hold all of it.
use mathlib.Core.Path.{◌≡◌, refl, sym, ap, ◌∙◌}
use Prim.Native.Nat.{ℕ, ◌≤◌, min}
use native.Mathlib.Omega.{arith}
use mathlib.Core.List.{List, []}
use lib.ListN.{length, take, length-map, length-take}
use lib.Seq.{sets}
use Rattle.lists.specs.Lists.{pairs}
use Rattle.lists.specs.Distinct.{kept, places}
use Rattle.lists.proofs.Stores.{take_stored}
use Rattle.lists.proofs.Distinct.{length_kept, length_places}
use Rattle.rules.specs.Limits.{max_merge}
use Rattle.rules.specs.Merge.{Key2, same2}
use Rattle.merge_keys.specs.Keys.{room, merging, firsts, seconds}

pub merging_is : (x y kx ky at : List ℕ) → take (min max_merge (min (length kx) (min (length ky) (length at)))) (pairs x y) ≡ merging x y kx ky at
unfolding merging room
merging_is x y kx ky at = refl

-- no more are kept than a merge takes
pub few_kept : (x y kx ky at : List ℕ) → length (kept same2 (merging x y kx ky at)) ≤ max_merge
few_kept x y kx ky at =
    let n : ℕ = min max_merge (min (length kx) (min (length ky) (length at))) in
    omega (arith, length_kept same2 [] (merging x y kx ky at), ap length (merging_is x y kx ky at), length-take n (pairs x y))

-- the rooms hold as much as a merge takes
pub record Large (kx ky at : List ℕ) : Type 0 where
  pub in_kx : length kx ≡ max_merge
  pub in_ky : length ky ≡ max_merge
  pub in_at : length at ≡ max_merge

-- the front of the rooms after a merge
pub record Found (ps : List Key2) (kx ky at : List ℕ) (n k : ℕ) : Type 0 where
  pub kept_x : take k kx ≡ firsts (kept same2 ps)
  pub kept_y : take k ky ≡ seconds (kept same2 ps)
  pub placed : take n at ≡ places same2 ps

module _ (x y : List ℕ) {kx ky at kx' ky' at' : List ℕ} {n k : ℕ} (l : Large kx ky at) (sized : n ≡ min max_merge (length (pairs x y)))
    (value : k ≡ length (kept same2 (merging x y kx ky at))) (kx_after : kx' ≡ sets kx 0 (firsts (kept same2 (merging x y kx ky at))))
    (ky_after : ky' ≡ sets ky 0 (seconds (kept same2 (merging x y kx ky at)))) (at_after : at' ≡ sets at 0 (places same2 (merging x y kx ky at))) where
  abbrev ps : List Key2
  ps = take max_merge (pairs x y)

  all_of : merging x y kx ky at ≡ ps
  all_of =
      let e : min max_merge (min (length kx) (min (length ky) (length at))) ≡ max_merge = omega (arith, l.in_kx, l.in_ky, l.in_at) in
      sym (merging_is x y kx ky at) ∙ ap (λ (n : ℕ). take n (pairs x y)) e

  pub found : Found ps kx' ky' at' n k
  found =
      let z : length ps ≡ min max_merge (length (pairs x y)) = length-take max_merge (pairs x y) in
      let m : k ≤ max_merge = omega (arith, value, few_kept x y kx ky at) in
      let c : k ≡ length (kept same2 ps) = rw all_of at value in
      record {
        kept_x = take_stored kx kx' _ k (rw all_of at kx_after) (c ∙ sym (length-map (kept same2 ps) _)) (omega (arith, m, l.in_kx));
        kept_y = take_stored ky ky' _ k (rw all_of at ky_after) (c ∙ sym (length-map (kept same2 ps) _)) (omega (arith, m, l.in_ky));
        placed = take_stored at at' _ n (rw all_of at at_after) (sized ∙ sym z ∙ sym (length_places same2 [] ps)) (omega (arith, sized, l.in_at));
      }
