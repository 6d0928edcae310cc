-- The answer of `swizzle_mux_bits` as a struct.
use Rattle.std.specs.Prelude.{ℕ, List, replicate}
use Rattle.rules.specs.Limits.{max_ports}
use Rattle.rules.specs.Answers.{Answer, Refused, Accepted}
use Rattle.swizzle_sizes.specs.Calls.{in_arrays}
use Rattle.c_plan.specs.declared.MuxBits.{MuxBits}

-- nothing but zeros where it is refused
abbrev pub bits_struct : Answer (List ℕ × List ℕ) → MuxBits
bits_struct (Refused n) = record { refusal = n; writes = replicate max_ports 0; reads = replicate max_ports 0 }
bits_struct (Accepted x) = record { refusal = 0; writes = x.0; reads = x.1 }

-- from the rules' answer: zeros past the last port too
abbrev pub mux_bits_struct : Answer (List ℕ × List ℕ) → MuxBits
mux_bits_struct a = bits_struct (in_arrays a)
