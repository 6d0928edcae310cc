-- What the functions over a port leave, for any numbers: nothing where they pass the limits.
use Rattle.std.specs.Prelude.{◌≡◌, ℕ, ◌-◌, ◌*◌, ◌<◌, ◌≤◌, Bool, ◌&&◌, List, length, replicate, eqb, leb, ltb}
use Rattle.std.proofs.lemmas.List.Edits.{sets}
use Rattle.lists.specs.Choice.{when◌then◌else◌}
use Rattle.lists.specs.Lists.{up_from}
use Rattle.rules.specs.Limits.{X, trit_x, max_columns, max_row, max_width, max_nets}
use Rattle.rules.specs.Swizzle.{arrange, repeating}
use Rattle.swizzle_laws.specs.Stores.{spill_at, spill_each}
use Rattle.image_geometry.specs.declared.Params.{Params}
use Rattle.swizzle_split.specs.declared.Split.{Split}
use Rattle.swizzle_split.specs.Rows.{rows_of}
use Rattle.swizzle_columns.specs.declared.WidePort.{WidePort}
use Rattle.swizzle_columns.specs.declared.Grid.{Grid}
use Rattle.swizzle_columns.specs.Rows.{all_sources, starts_by}

-- a port's numbers by its split, among so many memories
abbrev pub wide_of : Params → ℕ → Split → WidePort
wide_of p mems s = record {
  mems = mems;
  unit = p.unit;
  rows = rows_of s.new;
  olds = rows_of s.old;
  width = p.width;
  chunks = s.mask;
  pieces = s.pieces;
}

-- the rows of a port with the largest wide log
abbrev pub max_rows : ℕ
max_rows = 16

-- the columns are within the limits, and `size` counts those of all new rows
unfoldable pub sizes_fit : WidePort → ℕ → Bool
sizes_fit p size = leb p.rows max_rows && (leb (p.mems * p.unit) max_columns && (leb 1 size && eqb size (p.rows * (p.mems * p.unit))))

-- so are the entries of a row, the old rows and the pieces
unfoldable pub rows_fit : WidePort → ℕ → Bool
rows_fit p len = leb len max_row && (leb p.olds max_rows && (leb p.width max_width && leb p.pieces max_nets))

-- piece x can be stored: the port is within the limits, its room is as large as its columns, and a row as long as its old rows
unfoldable pub can_store : WidePort → ℕ → ℕ → ℕ → ℕ → Bool
can_store p len size n x = sizes_fit p size && (rows_fit p len && (eqb n (p.olds * len) && ltb x p.pieces))

-- the same as facts
pub record PortFits (p : WidePort) (len size : ℕ) : Type 0 where
  pub rows_max : p.rows ≤ max_rows
  pub columns_max : p.mems * p.unit ≤ max_columns
  pub some : 0 < size
  pub size_is : size ≡ p.rows * (p.mems * p.unit)
  pub len_max : len ≤ max_row
  pub olds_max : p.olds ≤ max_rows
  pub width_max : p.width ≤ max_width
  pub pieces_max : p.pieces ≤ max_nets

pub record Stores (p : WidePort) (len size n x : ℕ) : Type 0 where
  pub port : PortFits p len size
  pub enough : n ≡ p.olds * len
  pub one : x < p.pieces

abbrev pub grid_of : WidePort → ℕ → Grid
grid_of p len = record {
  mems = p.mems;
  rows = p.rows;
  unit = p.unit;
  entries = len;
  columns = p.mems * p.unit;
  chunks = p.chunks;
  hop = (p.rows - 1) * p.unit;
  back = (p.mems - 1) * (p.rows * p.unit);
}

-- where piece x starts, with so many entries to a row
abbrev pub port_starts : WidePort → ℕ → ℕ → List ℕ
port_starts p len = starts_by p.chunks (p.mems * p.unit) len p.olds

-- the data and the trits of all columns
module _ {A : Type 0} where
  abbrev pub port_columns : A → WidePort → List ℕ → List A → ℕ → List A
  port_columns blank p es v size =
      spill_each p.mems p.rows p.unit (length es) (port_starts p (length es)) (up_from 0 p.pieces) (arrange blank (all_sources p.olds p.width es) v) (replicate size blank)

abbrev pub port_bits : WidePort → List ℕ → List ℕ → ℕ → List ℕ
port_bits p es v size = port_columns X p es v size

abbrev pub port_trits : WidePort → List ℕ → List ℕ → ℕ → List ℕ
port_trits p es v size = port_columns trit_x p es v size

-- ---- any numbers: `room` is what a lent room holds before
unfoldable pub stored_of : WidePort → ℕ → ℕ → List ℕ → List ℕ → List ℕ
stored_of p len x v room = when can_store p len (length room) (length v) x then spill_at p.mems p.rows p.unit len (port_starts p len x) v room else room

unfoldable pub mask_row : WidePort → List ℕ → List ℕ → List ℕ → List ℕ
mask_row p es v out = when rows_fit p (length es) then sets out 0 (repeating X (all_sources p.olds p.width es) v) else out

module _ {A : Type 0} where
  unfoldable pub columns_of : A → WidePort → List ℕ → List A → List A → List A
  columns_of blank p es v room = when sizes_fit p (length room) && rows_fit p (length es) then port_columns blank p es v (length room) else room

abbrev pub bits_of : WidePort → List ℕ → List ℕ → List ℕ → List ℕ
bits_of p es v room = columns_of X p es v room

abbrev pub trits_of : WidePort → List ℕ → List ℕ → List ℕ → List ℕ
trits_of p es v room = columns_of trit_x p es v room
