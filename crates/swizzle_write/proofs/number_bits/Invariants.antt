-- The invariants of `swizzle_write::number_bits`.
use mathlib.Core.Path.{◌≡◌}
use Prim.Native.Nat.{◌-◌}
use mathlib.Core.List.{◌++◌}
use lib.ListN.{length, take}
use Rattle.rules.specs.Value.{from_uint}
use Rattle.swizzle_write.proofs.number_bits.Given as goal

abbrev pub invariant-loop-bit : goal.invariant-loop-bit
invariant-loop-bit l = take l.bit-index l.out ++ from_uint (length l.initial.out - l.bit-index) l.left ≡ from_uint (length l.initial.out) l.x
