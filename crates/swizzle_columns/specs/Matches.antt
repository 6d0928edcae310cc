-- The numbers that a port is given are those of a layout and a split of the rules.
use Rattle.std.specs.Prelude.{◌≡◌, ℕ, ◌+◌, ◌*◌, ◌^◌, ◌<◌, List}
use Rattle.rules.specs.Geometry as rules
use Rattle.rules.specs.Swizzle.{Split, piece_start}
use Rattle.swizzle_columns.specs.declared.Grid.{Grid}
use Rattle.swizzle_columns.specs.Rows.{start_of}

pub record Laid (g : Grid) (columns pieces olds : ℕ) (chunks : ℕ) (width : ℕ) (entries : List ℕ) (q : rules.Layout) (s : Split) : Type 0 where
  pub mems_are : g.mems ≡ rules.all_mems q
  pub rows_are : g.rows ≡ 2 ^ s.new
  pub unit_is : g.unit ≡ q.unit
  pub len_is : g.entries ≡ rules.row_len_of q
  pub columns_are : columns ≡ rules.columns q
  pub pieces_are : pieces ≡ s.pieces
  pub olds_are : olds ≡ 2 ^ s.old
  pub width_is : width ≡ q.width
  pub entries_are : entries ≡ q.entries
  pub starts_are : (x j : ℕ) → x < pieces → j < olds → start_of chunks columns g.entries (j + olds * x) ≡ piece_start q s x j
