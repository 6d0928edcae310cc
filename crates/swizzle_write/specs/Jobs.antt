-- What the functions over pieces ask.
use Rattle.std.specs.Prelude.{◌≡◌, ℕ, ◌*◌, ◌≤◌, List, length, replicate}
use Rattle.lists.specs.Lists.{pairs}
use Rattle.rules.specs.Merge.{Key2}
use Rattle.merge_keys.specs.Keys.{MergeOf}
use Rattle.swizzle_columns.specs.Wide.{PortFits}
use Rattle.swizzle_write.specs.declared.Masked.{Masked}
use Rattle.swizzle_laws.specs.Rooms.{mux_room}

-- the keys of a mask against zeros
abbrev pub with_zeros : List ℕ → List Key2
with_zeros mask = pairs mask (replicate (length mask) 0)

-- a port with a row of its mask, what its merge keeps, a mux address that is not long, and arrays of the right lengths: for a piece's mask, and the room
pub record Job (m : Masked) (pl tl : ℕ) : Type 0 where
  pub port : PortFits m.port m.per_row tl
  pub enough : length m.row.now ≡ m.port.olds * m.per_row
  pub kept : MergeOf (with_zeros m.row.now) m.kept
  pub short : length m.mux.now ≤ mux_room
  pub piece_len : pl ≡ length m.row.now
