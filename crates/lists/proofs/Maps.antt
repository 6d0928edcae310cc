-- Laws of the loop that stores a function of each element of a list: `to` is what `to₀` became after i stores from `at` on.
use mathlib.Core.Path.{◌≡◌, sym, ap, ◌∙◌}
use Prim.Native.Nat.{ℕ, ◌+◌, ◌<◌}
use mathlib.Core.List.{List, map}
use lib.ListN.{length, take, get_or, set, length-map, get_or-map}
use lib.Seq.{sets, take-length}
use Rattle.lists.proofs.Store.{sets_more}

module _ {ℓ} {A B : Type ℓ} (f : A → B) (l : List A) (to₀ to : List B) (at i : ℕ) (e : to ≡ sets to₀ at (take i (map f l))) where
  pub map_turn : (d : A) (j : ℕ) → j ≡ at + i → i < length l → set to j (f (get_or l i d)) ≡ sets to₀ at (take (i + 1) (map f l))
  map_turn d j q h =
      ap (λ (m : List B). set m j (f (get_or l i d))) e
      ∙ ap (λ (k : ℕ). set (sets to₀ at (take i (map f l))) k (f (get_or l i d))) q
      ∙ ap (λ (x : B). set (sets to₀ at (take i (map f l))) (at + i) x) (sym (get_or-map f l i d))
      ∙ sets_more to₀ at (map f l) i (f d) (rw length-map h)

  pub map_done : i ≡ length l → to ≡ sets to₀ at (map f l)
  map_done h = e ∙ ap (λ (n : ℕ). sets to₀ at (take n (map f l))) (h ∙ sym (length-map l f)) ∙ ap (sets to₀ at) (take-length (map f l))
