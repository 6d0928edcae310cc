-- The lists of a fallback's plan.
use Rattle.std.specs.Prelude.{ℕ, ◌-◌, replicate}
use Rattle.std.proofs.lemmas.List.Edits.{sets}
use Rattle.lists.specs.Lists.{up_from}
use Rattle.rules.specs.Limits.{max_ports, max_row}
use Rattle.fallback_plan.specs.declared.Lists.{Lists}

-- for a row of so many bits: each in its place, and 0 for each new wide log
abbrev pub lists_for : ℕ → Lists
lists_for width = record { entries = sets (replicate max_row 0) 0 (up_from 0 (width - 0)); zeros = replicate max_ports 0 }
