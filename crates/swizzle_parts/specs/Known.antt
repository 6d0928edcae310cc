-- A struct whose numbers are known to be small.
use Rattle.std.specs.Prelude.{◌≡◌, ℕ, Option, None, Some, true, false}
use Rattle.swizzle_result.specs.declared.WideMemory.{WideMemory}
use Rattle.swizzle_parts.specs.declared.memories.Memories.{Memories}
use Rattle.swizzle_parts.specs.Parts.{has_port}

-- the struct with what is known of its numbers, where there is such a port
abbrev pub WithPort : WideMemory → ℕ → ℕ → ℕ → Option Memories → Type 0
WithPort g n i count None = has_port g n i count ≡ false
WithPort g n i count (Some m) = (has_port g n i count ≡ true) × (m.g ≡ g)
