-- What the functions over pieces ask.
use Rattle.std.specs.Prelude.{◌≡◌, ℕ, ◌+◌, ◌*◌, ◌<◌, ◌≤◌}
use Rattle.rules.specs.Limits.{max_merge}
use Rattle.swizzle_columns.specs.declared.Grid.{Grid}
use Rattle.swizzle_columns.specs.Steps.{Good}

-- the numbers of the pieces' rows are 32-bit numbers, and their starts can be counted
pub record Narrow (olds columns entries x : ℕ) : Type 0 where
  pub sum : (olds + olds * x) * (columns + entries) ≤ 4611686018427387904
  pub numbers : olds + olds * x ≤ 4294967296

-- a port's entries, few old rows of so many bits each, and the room
pub record Port (g : Grid) (olds width el tl : ℕ) : Type 0 where
  pub good : Good g tl
  pub entries_are : el ≡ g.entries
  pub few : olds * g.entries ≤ max_merge
  pub few_olds : olds ≤ 16
  pub low : olds * width < 4294967296
