-- The bytes of an array of bits.
use mathlib.Core.Path.{◌≡◌}
use Prim.Native.Nat.{ℕ, ◌+◌, ◌/◌, ◌%◌, min}
use native.Mathlib.Omega.{arith}
use Rattle.rules.specs.Numbers.{ceil_div}
use Rattle.rules.specs.Record.{array_bytes}

pub array_bytes_lem : (n : ℕ) → n / 8 + min 1 (n % 8) ≡ array_bytes n
unfolding array_bytes ceil_div
array_bytes_lem n = omega arith
