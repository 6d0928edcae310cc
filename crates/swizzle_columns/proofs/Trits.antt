-- A read port's trits: what the code leaves is what the rules give, in the order of the memories.
use mathlib.Core.Path.{◌≡◌, refl, sym, ap, ◌∙◌}
use Prim.Native.Nat.{ℕ, ◌+◌, ◌-◌, ◌*◌, ◌^◌, ◌<◌, ◌≤◌}
use native.Mathlib.Omega.{arith}
use mathlib.Core.List.{List, [], ◌∷◌}
use lib.ListN.{replicate}
use Rattle.lists.specs.Lists.{up_from}
use Rattle.lists.proofs.UpFrom.{count_step, count_end}
use Rattle.rules.specs.Limits.{trit_x}
use Rattle.rules.specs.Geometry as rules
use Rattle.rules.specs.Geometry.{Layout, row_len_of, all_mems}
use Rattle.rules.specs.Swizzle.{Split, piece_start, arrange, const_columns}
use Rattle.swizzle_laws.specs.Order.{ordered}
use Rattle.swizzle_laws.specs.Stores.{starts_of, spill_at, spill_each}
use Rattle.swizzle_laws.proofs.Whole.{order_const}
use Rattle.swizzle_columns.specs.declared.Grid.{Grid}
use Rattle.swizzle_columns.specs.Steps.{Good}
use Rattle.swizzle_columns.specs.Rows.{start_of, starts_by, all_sources}
use Rattle.swizzle_columns.specs.Matches.{Laid}
use Rattle.swizzle_columns.proofs.Rules.{sources_are, each_starts, starts_are}

-- ---- the pieces in turn
module _ {A : Type 0} (M R U L : ℕ) (starts : ℕ → List ℕ) (v : List A) (N : ℕ) where
  each_cons : (x : ℕ) (xs : List ℕ) (l : List A) → spill_each M R U L starts (x ∷ xs) v l ≡ spill_each M R U L starts xs v (spill_at M R U L (starts x) v l)
  unfolding spill_each
  each_cons x xs l = refl

  each_none : (l : List A) → spill_each M R U L starts [] v l ≡ l
  unfolding spill_each
  each_none l = refl

  pub each_turn : (x : ℕ) (l l' : List A) → x < N → l' ≡ spill_at M R U L (starts x) v l
      → spill_each M R U L starts (up_from (x + 1) (N - (x + 1))) v l' ≡ spill_each M R U L starts (up_from x (N - x)) v l
  each_turn x l l' h e =
      ap (spill_each M R U L starts (up_from (x + 1) (N - (x + 1))) v) e
      ∙ sym (ap (λ (xs : List ℕ). spill_each M R U L starts xs v l) (count_step x N h) ∙ each_cons x (up_from (x + 1) (N - (x + 1))) l)

  pub each_end : (x : ℕ) (l : List A) → N ≤ x → spill_each M R U L starts (up_from x (N - x)) v l ≡ l
  each_end x l h = ap (λ (xs : List ℕ). spill_each M R U L starts xs v l) (count_end x N h) ∙ each_none l

-- ---- the whole
module _ (g : Grid) (columns pieces olds : ℕ) (chunks : ℕ) (width : ℕ) (entries v : List ℕ) (q : Layout) (s : Split) (m : Laid g columns pieces olds chunks width entries q s) (size : ℕ) (o : Good g size) where
  starts_of_lem : (x j : ℕ) → x < s.pieces → j < 2 ^ s.old → start_of chunks (rules.columns q) (row_len_of q) (j + 2 ^ s.old * x) ≡ piece_start q s x j
  starts_of_lem x j h k =
      sym (λ i. start_of chunks (m.columns_are i) (m.len_is i) (j + m.olds_are i * x))
      ∙ m.starts_are x j (omega (arith, m.pieces_are)) (omega (arith, m.olds_are))

  pub laid_trits : spill_each g.mems g.rows g.unit g.entries (starts_by chunks columns g.entries olds) (up_from 0 pieces) (arrange trit_x (all_sources olds width entries) v) (replicate size trit_x)
      ≡ ordered q s (const_columns q s v)
  laid_trits =
      ap (λ (n : ℕ). spill_each g.mems g.rows g.unit g.entries (starts_by chunks columns g.entries olds) (up_from 0 pieces) (arrange trit_x (all_sources olds width entries) v) (replicate n trit_x)) o.size_is
      ∙ (λ i. spill_each (m.mems_are i) (m.rows_are i) (m.unit_is i) (m.len_is i) (starts_by chunks (m.columns_are i) (m.len_is i) (m.olds_are i)) (up_from 0 (m.pieces_are i))
      (arrange trit_x (all_sources (m.olds_are i) (m.width_is i) (m.entries_are i)) v) (replicate (m.rows_are i * (m.mems_are i * m.unit_is i)) trit_x))
      ∙ each_starts (all_mems q) (2 ^ s.new) q.unit (row_len_of q) _ (starts_of q s) (arrange trit_x (all_sources (2 ^ s.old) q.width q.entries) v) 0 s.pieces _ (λ x h. starts_are q s chunks starts_of_lem x (omega arith))
      ∙ (λ i. spill_each (all_mems q) (2 ^ s.new) q.unit (row_len_of q) (starts_of q s) (up_from 0 s.pieces) (arrange trit_x (sources_are q s i) v) (replicate (2 ^ s.new * (all_mems q * q.unit)) trit_x))
      ∙ sym (order_const q s v)
