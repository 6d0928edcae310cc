-- The invariants of `fallback_rows::Memories::over_all`.
use Prim.Native.Nat.{ℕ}
use mathlib.Core.List.{List}
use lib.ListN.{take}
use Rattle.log_entries.specs.View.{lent_of}
use Rattle.swizzle_parts.specs.Parts.{memory_at}
use Rattle.fallback_rows.proofs.Rows.{Going}
use Rattle.fallback_rows.proofs.Memories.over_all.Given as goal

abbrev pub invariant-loop-j : goal.invariant-loop-j
invariant-loop-j l = ((trits image : List ℕ) → Going l.self.g.unit (memory_at l.self.g l.self.nets.now trits image l.n).memory l.count (take l.self.g.unit l.initial.row.nets) (lent_of l.initial.log) l.j (take l.self.g.unit l.row.nets) (lent_of l.log))
