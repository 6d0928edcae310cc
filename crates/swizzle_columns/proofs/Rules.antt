-- The entries of a port's old rows and the starts of its pieces are those of the rules.
use mathlib.Core.Path.{◌≡◌, refl, ap, ◌∙◌}
use Prim.Native.Nat.{ℕ, zero, suc, ◌+◌, ◌*◌, ◌^◌, ◌<◌}
use native.Mathlib.Omega.{arith}
use mathlib.Core.List.{List, ◌∷◌, map}
use Rattle.lists.specs.Lists.{up_from}
use Rattle.rules.specs.Geometry.{Layout, row_len_of, columns}
use Rattle.rules.specs.Swizzle.{Split, piece_start, old_rows, sources}
use Rattle.swizzle_laws.specs.Stores.{starts_of, spill_at, spill_each}
use Rattle.swizzle_columns.specs.Rows.{start_of, starts_by, row_sources, sources_from, all_sources}

-- ---- the rows' entries
pub sources_are : (q : Layout) (s : Split) → all_sources (2 ^ s.old) q.width q.entries ≡ sources q s
unfolding all_sources sources_from row_sources sources old_rows
sources_are q s = refl

-- ---- stores go by the starts of the pieces in use alone
map_up : (f g : ℕ → ℕ) (a n : ℕ) → ((j : ℕ) → j < a + n → f j ≡ g j) → map f (up_from a n) ≡ map g (up_from a n)
map_up f g a zero e = refl
map_up f g a (suc n) e =
    let h : f a ≡ g a = e a (omega arith) in
    let r = map_up f g (suc a) n (λ j k. e j (omega arith)) in
    λ i. h i ∷ r i

pub each_starts : (M R U L : ℕ) (f g : ℕ → List ℕ) (v : List ℕ) (a n : ℕ) (l : List ℕ) → ((x : ℕ) → x < a + n → f x ≡ g x)
    → spill_each M R U L f (up_from a n) v l ≡ spill_each M R U L g (up_from a n) v l
unfolding spill_each
each_starts M R U L f g v a zero l e = refl
each_starts M R U L f g v a (suc n) l e =
    let h : f a ≡ g a = e a (omega arith) in
    each_starts M R U L f g v (suc a) n (spill_at M R U L (f a) v l) (λ x k. e x (omega arith))
    ∙ ap (λ (ss : List ℕ). spill_each M R U L g (up_from (suc a) n) v (spill_at M R U L ss v l)) h

module _ (q : Layout) (s : Split) (chunks : ℕ) (k : (x j : ℕ) → x < s.pieces → j < 2 ^ s.old → start_of chunks (columns q) (row_len_of q) (j + 2 ^ s.old * x) ≡ piece_start q s x j) where
  pub starts_are : (x : ℕ) → x < s.pieces → starts_by chunks (columns q) (row_len_of q) (2 ^ s.old) x ≡ starts_of q s x
  unfolding starts_by starts_of old_rows
  starts_are x h = map_up _ _ 0 (2 ^ s.old) (λ j g. k x j h (omega arith))
