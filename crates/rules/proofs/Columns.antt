-- Columns are counted after rounding up to the unit.
use mathlib.Core.Path.{◌≡◌, refl}
use mathlib.Core.List.{[], ◌∷◌}
use Rattle.rules.specs.Numbers.{ceil_div, softs}
use Rattle.rules.specs.Geometry.{Layout, soft_bits, soft, row_len_of, full_depth_of, full_chunks, part_depth_of, all_chunks, all_mems, columns}

-- three bits a row, in memories of two columns
abbrev three : Layout
three = record {
  depth = 1;
  width = 3;
  entries = 0 ∷ 1 ∷ 2 ∷ [];
  soft_mask = 0;
  hard = 0;
  unit = 2;
}

pub rounded_up : columns three ≡ 4
unfolding columns all_mems all_chunks part_depth_of full_chunks full_depth_of row_len_of soft soft_bits softs ceil_div
rounded_up = refl
