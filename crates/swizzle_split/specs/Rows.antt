-- The rows of a port by its wide log.
use Rattle.std.specs.Prelude.{ℕ, ◌^◌, min}
use Rattle.rules.specs.Limits.{max_wide}

-- a wide log past the most counts as the most
abbrev pub rows_of : ℕ → ℕ
rows_of wide = 2 ^ min wide max_wide
