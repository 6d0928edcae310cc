-- The invariants of `swizzle_read::emit_voids`.
use Rattle.rules.specs.Swizzle.{add_voids}
use Rattle.log_entries.specs.Emission.{run}
use Rattle.log_entries.specs.View.{lent_of}
use mathlib.Core.Path.{◌≡◌}
use Prim.Native.Nat.{◌-◌}
use Rattle.swizzle_read.proofs.emit_voids.Given as goal

abbrev pub invariant-loop : goal.invariant-loop
invariant-loop l = run (add_voids (l.count - l.counter) l.width) (lent_of l.log) ≡ run (add_voids l.count l.width) (lent_of l.initial.log)
