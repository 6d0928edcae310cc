-- Pieces of a wide port stored memory after memory, on plain numbers: M memories of U columns, R rows, L entries to a row, and where each piece
-- starts.
use Rattle.std.specs.Prelude.{ℕ, ◌+◌, ◌-◌, ◌*◌, min, List, [], ◌∷◌, map, length, take, drop, replicate}
use Rattle.lists.specs.Choice.{when◌then◌else◌}
use Rattle.rules.specs.Value.{Value, from_uint, Pos}
use Rattle.rules.specs.Log.{Trace, ◌>>=◌, done, add_eq_of}
use Rattle.rules.specs.Merge.{add_dedup_mux_of}
use Rattle.rules.specs.Ports.{is_empty}
use Rattle.rules.specs.Geometry.{Layout}
use Rattle.rules.specs.Swizzle.{Role, spot_by, Split, old_rows, piece_start}
use Rattle.swizzle_laws.specs.Order.{spill}

module _ {A : Type 0} where
  -- a run, as far as the columns go
  unfoldable pub spill_fit : ℕ → ℕ → ℕ → List A → ℕ → List A → List A
  spill_fit M R U l i ws = spill M R U l i (take (min (length ws) (R * (M * U) - i)) ws)

  -- a piece: L of its bits to each start
  unfoldable pub spill_at : ℕ → ℕ → ℕ → ℕ → List ℕ → List A → List A → List A
  spill_at M R U L [] v l = l
  spill_at M R U L (a ∷ more) v l = spill_at M R U L more (drop L v) (spill_fit M R U l a (take L v))

  -- the same bits as each of these pieces
  unfoldable pub spill_each : ℕ → ℕ → ℕ → ℕ → (ℕ → List ℕ) → List ℕ → List A → List A → List A
  spill_each M R U L starts [] v l = l
  spill_each M R U L starts (x ∷ xs) v l = spill_each M R U L starts xs v (spill_at M R U L (starts x) v l)

-- the mask of piece x, by the mux address
unfoldable pub piece_by : Value → Value → ℕ → Trace Value
piece_by mux mask x = do
  e ← add_eq_of mux (from_uint (length mux) x)
  when is_empty mux then done mask else add_dedup_mux_of (Pos e) mask (replicate (length mask) 0)

-- the masks of these pieces stored
unfoldable pub spill_masks : ℕ → ℕ → ℕ → ℕ → (ℕ → List ℕ) → Value → Value → List ℕ → List ℕ → Trace (List ℕ)
spill_masks M R U L starts mux mask [] l = done l
spill_masks M R U L starts mux mask (x ∷ xs) l = do
  k ← piece_by mux mask x
  spill_masks M R U L starts mux mask xs (spill_at M R U L (starts x) k l)

-- where a piece starts, by the roles of the bits of its number and of the old row's
unfoldable pub start_by : List Role → ℕ → ℕ → ℕ → ℕ
start_by rs C L n = let p = spot_by rs n in p.row * C + p.chunk * L

-- of a layout's port
unfoldable pub starts_of : Layout → Split → ℕ → List ℕ
starts_of q s x = map (piece_start q s x) (old_rows s)
