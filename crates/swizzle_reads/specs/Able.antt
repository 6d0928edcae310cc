-- What the parts of a read port ask.
use Rattle.std.specs.Prelude.{◌≡◌, ℕ, ◌-◌, ◌^◌, ◌<◌, ◌≤◌, length, get_or}
use Rattle.rules.specs.Limits.{addr_bits, max_width, max_hard, max_row, max_columns, None}
use Rattle.rules.specs.Value.{Value}
use Rattle.rules.specs.Geometry.{Layout, all_mems, columns}
use Rattle.rules.specs.Swizzle.{split_addr}
use Rattle.swizzle_split.specs.declared.Split.{Split}
use Rattle.swizzle_split.specs.Steps.{Fits, row_bits}
use Rattle.swizzle_reads.specs.declared.Sizes.{Sizes}

-- a layout's limits
pub record Rows (q : Layout) : Type 0 where
  pub unit_some : 0 < q.unit
  pub names : (i : ℕ) → i < length q.entries → (get_or q.entries i 0 ≡ None → ⊥) → get_or q.entries i 0 < q.width
  pub width_max : q.width ≤ max_width
  pub hard_max : q.hard ≤ max_hard
  pub row_max : length q.entries ≤ max_row
  pub columns_max : columns q ≤ max_columns

-- the machine's numbers of it
pub record Measures (q : Layout) (z : Sizes) : Type 0 where
  pub rows : Rows q
  pub mems_are : z.mems ≡ all_mems q
  pub columns_are : z.columns ≡ columns q

-- the machine's split of an address is that of the rules
pub record Same (q : Layout) (old new : ℕ) (addr hw mux : Value) (s : Split) : Type 0 where
  pub fits : Fits q old new (length addr)
  pub old_is : s.old ≡ old
  pub new_is : s.new ≡ new
  pub hw_is : hw ≡ (split_addr q old new addr).addr
  pub hw_len : s.hw_len ≡ length (split_addr q old new addr).addr
  pub mux_is : mux ≡ (split_addr q old new addr).mux_addr
  pub pieces_are : s.pieces ≡ (split_addr q old new addr).pieces
  pub mask_is : s.mask ≡ 2 ^ addr_bits - 1 - row_bits q old new addr
