-- The invariants of `swizzle_writes::swizzle_writes`.
use Prim.Native.Nat.{ℕ, min}
use mathlib.Core.List.{List}
use lib.ListN.{take}
use Rattle.rules.specs.Limits.{max_ports}
use Rattle.log_entries.specs.View.{lent_of}
use Rattle.net_memory.specs.View.{memory_of}
use Rattle.image_geometry.specs.View.{layout_of}
use Rattle.swizzle_writes.proofs.Steps.{Going}
use Rattle.swizzle_writes.proofs.swizzle_writes.Given as goal

abbrev pub invariant-loop-j : goal.invariant-loop-j
invariant-loop-j l = (trits : List ℕ) → Going (memory_of l.fn.given.memory l.fn.given.nets.now trits) (layout_of l.fn.memories.layout) l.fn.memories.mems l.fn.given.memory.write_ports (take (min max_ports l.fn.given.memory.write_count) l.wide) (record { room = l.initial.to; at = l.initial.used; ports = l.initial.ports }) (lent_of l.initial.log) l.j (record { room = l.to; at = l.used; ports = l.ports }) (lent_of l.log)
