-- Marks: how often each of 128 bits is named, where 2 stands for more than once.
use Rattle.std.specs.Prelude.{ℕ, ◌+◌, ◌-◌, ◌<◌, min, ◌≡◌, Bool, ◌||◌, not, List, eqb, ltb, leb, get_or, set}
use Rattle.lists.specs.Choice.{when◌then◌else◌}
use Rattle.rules.specs.Conditions.{times}
use Rattle.rules.specs.Limits.{max_width}

-- one more, up to 2
abbrev pub more : ℕ → ℕ
more n = when eqb n 0 then 1 else 2

-- an entry's bit marked, if it is one of the 128 from base on
unfoldable pub bumped : ℕ → ℕ → List ℕ → List ℕ
bumped base e marks = when ltb e base || leb max_width (e - base) then marks else set marks (e - base) (more (get_or marks (e - base) 0))

-- bit b is not named exactly once
abbrev pub not_once : List ℕ → ℕ → Bool
not_once es b = not (eqb (times b es) 1)

pub record Marked (base : ℕ) (es marks : List ℕ) : Type 0 where
  pub each : (j : ℕ) → j < max_width → min 2 (get_or marks j 0) ≡ min 2 (times (base + j) es)
