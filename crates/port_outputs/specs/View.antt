-- A port's part of a machine's outputs, as the rules have it.
use Rattle.std.specs.Prelude.{ℕ}
use Rattle.port_outputs.specs.declared.OutputSlice.{OutputSlice}

-- its start and its size
abbrev pub slice_of : OutputSlice → ℕ × ℕ
slice_of s = (s.start, s.size)
