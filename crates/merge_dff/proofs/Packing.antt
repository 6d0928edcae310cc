-- The loops that pack the trits of each bit and take a byte of each word: `to` is what `to₀` became after k stores.
use mathlib.Core.Path.{◌≡◌, refl, sym, ap, ◌∙◌}
use Prim.Native.Nat.{ℕ, ◌+◌, ◌<◌, min}
use native.Mathlib.Nat.{zero-add}
use native.Mathlib.Omega.{arith}
use native.Mathlib.Numerals.{add-one}
use mathlib.Core.Logic.{◌⊎◌, ⊎_elim}
use mathlib.Core.List.{List, ◌∷◌, map}
use Rattle.std.proofs.lemmas.List.{nil_from_length}
use lib.ListN.{length, take, get_or, set, length-map}
use lib.Seq.{sets}
use Rattle.lists.specs.Lists.{pairs}
use Rattle.lists.proofs.Pairs.{pairs_size, take_pairs}
use Rattle.lists.proofs.Joined.{map_take}
use Rattle.lists.proofs.Maps.{map_turn}
use Rattle.lists.proofs.Store.{copy_done}
use Rattle.merge_dff.specs.Packs.{pack_of, packed_byte, packs}

module _ (r c i : List ℕ) where
  pub packs_size : length (packs r c i) ≡ min (length r) (min (length c) (length i))
  unfolding packs
  packs_size = length-map (pairs r (pairs c i)) _ ∙ pairs_size r (pairs c i) ∙ ap (min (length r)) (pairs_size c i)

  -- nothing is left
  pub packs_none : length r ≡ 0 ⊎ (length c ≡ 0 ⊎ length i ≡ 0) → (to : List ℕ) (k : ℕ) → to ≡ sets to k (packs r c i)
  packs_none e to k =
      let n : length (packs r c i) ≡ 0 = ⊎_elim (λ h. omega (arith, packs_size, h)) (⊎_elim (λ h. omega (arith, packs_size, h)) (λ h. omega (arith, packs_size, h))) e in
      ap (sets to k) (sym (nil_from_length (packs r c i) n))

  -- of the first n of each
  pub packs_take : (n : ℕ) → packs (take n r) (take n c) (take n i) ≡ take n (packs r c i)
  unfolding packs
  packs_take n = rw (← take_pairs n c i, ← take_pairs n r (pairs c i)) (map_take _ n (pairs r (pairs c i)))

  -- a turn: one of each
  pub pack_turn : (to : List ℕ) (k : ℕ) {r' c' i' to' : List ℕ} {x y z w k' : ℕ} → r ≡ x ∷ r' → c ≡ y ∷ c' → i ≡ z ∷ i' → w ≡ pack_of x y z → k' ≡ k + 1
      → to' ≡ set to k w → sets to' k' (packs r' c' i') ≡ sets to k (packs r c i)
  unfolding packs
  pack_turn to k a b d e n s = rw (a, b, d, s, e, n, add-one k) refl

module _ (ps : List ℕ) (by : ℕ) (to₀ to : List ℕ) (k : ℕ) (e : to ≡ sets to₀ 0 (take k (map (packed_byte by) ps))) where
  pub part_turn : k < length ps → set to k (packed_byte by (get_or ps k 0)) ≡ sets to₀ 0 (take (k + 1) (map (packed_byte by) ps))
  part_turn h = map_turn (packed_byte by) ps to₀ to 0 k e 0 k (sym (zero-add k)) h

  pub part-done : k ≡ min (length ps) (length to₀) → to ≡ sets to₀ 0 (map (packed_byte by) ps)
  part-done h = copy_done to₀ to 0 k (map (packed_byte by) ps) e (omega (arith, length-map ps (packed_byte by)))
