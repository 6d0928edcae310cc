-- The loop that stores the net of each bit: `out` is what `out₀` became after i of them.
use mathlib.Core.Path.{◌≡◌, refl, sym, ap, ◌∙◌}
use Prim.Native.Nat.{ℕ, ◌+◌, ◌<◌}
use native.Mathlib.Omega.{arith}
use mathlib.Core.Bool.{Bool, true, false}
use mathlib.Core.List.{List}
use lib.ListN.{length, take, get_or, set, length-map, get_or-map}
use lib.Seq.{sets}
use Rattle.lists.proofs.Store.{copy_turn}
use Rattle.rules.specs.Limits.{X}
use Rattle.rules.specs.Value.{Value}
use Rattle.rules.specs.Merge.{spread}
use Rattle.merge_mux.specs.Results.{results}

pub length_spread : (at : List ℕ) (v : Value) → length (spread at v) ≡ length at
unfolding spread
length_spread at v = length-map at (λ p. get_or v p X)

spread_at : (at : List ℕ) (v : Value) (i : ℕ) → get_or (spread at v) i (get_or v 0 X) ≡ get_or v (get_or at i 0) X
unfolding spread
spread_at at v i = get_or-map (λ p. get_or v p X) at i 0

module _ (out₀ out at : List ℕ) (to : ℕ) (v : Value) (i : ℕ) (e : out ≡ sets out₀ to (take i (spread at v))) where
  pub spread_turn : (n : ℕ) → i < length at → n ≡ get_or v (get_or at i 0) X → set out (to + i) n ≡ sets out₀ to (take (i + 1) (spread at v))
  spread_turn n h f =
      ap (set out (to + i)) (f ∙ sym (spread_at at v i)) ∙ copy_turn out₀ out to i (spread at v) e (get_or v 0 X) (omega (arith, length_spread at v))

-- ---- the room for the results
module _ (over : Bool) (out : List ℕ) (to : ℕ) where
  pub results_none : (v : Value) → over ≡ true → out ≡ results over out to v
  unfolding results
  results_none v o = rw o

  pub results_some : (after : List ℕ) (v : Value) → over ≡ false → after ≡ sets out to v → after ≡ results over out to v
  unfolding results
  results_some after v o e = rw o e

  pub results_are : (v : Value) → over ≡ false → results over out to v ≡ sets out to v
  unfolding results
  results_are v o = rw o

  -- the value matters only where there was no overflow
  pub results_same : (v w : Value) → (over ≡ false → v ≡ w) → results over out to v ≡ results over out to w
  results_same v w f = on over refl
    where
      on : (o : Bool) → over ≡ o → results over out to v ≡ results over out to w
      on true q = sym (results_none v q) ∙ results_none w q
      on false q = ap (results over out to) (f q)
