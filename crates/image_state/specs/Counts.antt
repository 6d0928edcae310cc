-- What a private function asks: counts and depths that fit a word.
use Rattle.std.specs.Prelude.{◌≤◌}
use Rattle.image_geometry.specs.declared.Shape.{Shape}

pub record Counted (s : Shape) : Type 0 where
  pub full_under : s.full_mems ≤ s.all_mems
  pub all_max : s.all_mems ≤ 1073741824
  pub deep_max : s.full_depth ≤ 1048576
  pub part_max : s.part_depth ≤ 1048576
