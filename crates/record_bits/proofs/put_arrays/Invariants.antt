-- The invariants of `record_bits::put_arrays`.
use Rattle.rules.specs.Record.{pack_bits, array_bytes, known_bit, value_bit}
use Rattle.record_bits.proofs.Packs.{stored}
use mathlib.Core.Path.{◌≡◌}
use Prim.Native.Nat.{ℕ}
use mathlib.Core.List.{List, ◌++◌, map}
use lib.ListN.{length}
use lib.Seq.{sets}
use Rattle.record_bits.proofs.put_arrays.Given as goal

abbrev pub whole : List ℕ → List ℕ
whole ts = pack_bits (array_bytes (length ts)) (map known_bit ts) ++ pack_bits (array_bytes (length ts)) (map value_bit ts)

abbrev pub invariant-loop-j : goal.invariant-loop-j
invariant-loop-j l = (length l.out ≡ length l.initial.out) × (stored l.out (map known_bit l.ts) (map value_bit l.ts) l.at l.n l.j ≡ sets l.initial.out l.at (whole l.ts))
