-- What the private functions ask and give.
use Rattle.std.specs.Prelude.{ℕ, ◌+◌, ◌-◌, ◌*◌, ◌≤◌, Bool, true, false}
use Rattle.rules.specs.Beside.Shape.{Small}
use Rattle.rules.specs.Geometry.{Layout, full_mems, all_mems, full_depth_of, part_depth_of}
use Rattle.image_geometry.specs.declared.Params.{Params}
use Rattle.image_geometry.specs.declared.Mems.{Mems}
use Rattle.image_geometry.specs.declared.Walk.{Walk}

-- sizes within number 1's limits
abbrev pub Narrow : Params → ℕ → Type 0
Narrow p len = Small p.depth p.width len p.unit p.hard

abbrev pub mems_of : Layout → Mems
mems_of q = record { full = full_mems q; all = all_mems q; full_depth = full_depth_of q; part_depth = part_depth_of q }

-- ---- the walk
-- the weights are small enough that a bit can be added
pub record Roomy (w : Walk) (bit : ℕ) : Type 0 where
  pub bit_max : bit ≤ 1
  pub chunk_max : w.chunk ≤ 4294967296
  pub row_max : w.row ≤ 4294967296
  pub chunk_bit_max : w.cb ≤ 4294967296
  pub row_bit_max : w.rb ≤ 4294967296

-- the next bit is a chunk bit, or a row bit: the chunk or the row becomes the one that is given
abbrev pub moved : Bool → ℕ → ℕ → Walk → Walk
moved true chunk row w = record { chunk = chunk; cb = 2 * w.cb; row = w.row; rb = w.rb; hard = w.hard }
moved false chunk row w = record { chunk = w.chunk; cb = w.cb; row = row; rb = 2 * w.rb; hard = w.hard - 1 }

-- a bit that goes to the chunk number, or to the row number
abbrev pub stepped : Bool → ℕ → Walk → Walk
stepped t b w = moved t (w.chunk + b * w.cb) (w.row + b * w.rb) w

-- ---- the next row
-- a bit that was 1, of the chunk number or of the row number
abbrev pub taken_away : Bool → Walk → Walk
taken_away t w = moved t (w.chunk - w.cb) (w.row - w.rb) w
