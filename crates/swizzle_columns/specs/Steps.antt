-- What the private functions ask and give: a grid of columns, a cursor over it, and arrays of its size.
use Rattle.std.specs.Prelude.{◌≡◌, ℕ, ◌+◌, ◌-◌, ◌*◌, ◌/◌, ◌%◌, ◌<◌, ◌≤◌, List, length, ltb}
use Rattle.lists.specs.Choice.{when◌then◌else◌}
use Rattle.swizzle_laws.specs.Order.{home}
use Rattle.swizzle_columns.specs.declared.Grid.{Grid}
use Rattle.swizzle_columns.specs.declared.Cursor.{Cursor}

-- the grid of so many columns in all, with its two steps
pub record Good (g : Grid) (size : ℕ) : Type 0 where
  pub mems_pos : 0 < g.mems
  pub rows_pos : 0 < g.rows
  pub unit_pos : 0 < g.unit
  pub size_is : size ≡ g.rows * (g.mems * g.unit)
  pub low : size ≤ 4611686018427387903
  pub hop_is : g.hop ≡ (g.rows - 1) * g.unit
  pub back_is : g.back ≡ (g.mems - 1) * (g.rows * g.unit)

-- the cursor at index i
pub record At (g : Grid) (i : ℕ) (c : Cursor) : Type 0 where
  pub index_is : c.index ≡ home g.mems g.rows g.unit i
  pub bit_is : c.bit ≡ i % g.unit
  pub mem_is : c.mem ≡ i / g.unit % g.mems

abbrev pub next_of : Grid → Cursor → Cursor
next_of g c =
    when ltb (c.bit + 1) g.unit then record { index = c.index + 1; bit = c.bit + 1; mem = c.mem }
    else when ltb (c.mem + 1) g.mems then record { index = c.index + 1 + g.hop; bit = 0; mem = c.mem + 1 }
    else record { index = c.index + 1 - g.back; bit = 0; mem = 0 }

-- a step stays among numbers that can be counted
pub record Steppable (c : Cursor) (g : Grid) : Type 0 where
  pub bit_max : c.bit < 9223372036854775808
  pub mem_max : c.mem < 9223372036854775808
  pub index_max : c.index < 9223372036854775808
  pub hop_max : g.hop < 9223372036854775807
  pub back_low : g.mems ≤ c.mem + 1 → g.unit ≤ c.bit + 1 → g.back ≤ c.index + 1

-- so many entries for each start
pub record Rowed {A : Type 0} (g : Grid) (starts : List ℕ) (bits : List A) : Type 0 where
  pub enough : length bits ≡ length starts * g.entries
