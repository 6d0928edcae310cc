-- The invariants of `port_overlay::emit_pairs`.
use Prim.Native.Nat.{ℕ}
use mathlib.Core.List.{List}
use lib.ListN.{take}
use Rattle.log_entries.specs.View.{lent_of}
use Rattle.net_memory.specs.View.{memory_of}
use Rattle.port_transparency.specs.Pairs.{read_of, data_and}
use Rattle.port_overlay.proofs.Laid.{Going}
use Rattle.port_overlay.proofs.emit_pairs.Given as goal

abbrev pub invariant-loop-j : goal.invariant-loop-j
invariant-loop-j g l = (trits : List ℕ) → Going (memory_of l.given.memory l.given.nets.now trits) l.r.k (read_of l.r) l.rels (data_and (take l.r.count l.initial.overlay.under) (g.O.Over.mask l.initial.over l.r.count)) (lent_of l.initial.log) l.j (data_and (take l.r.count l.overlay.under) (g.O.Over.mask l.over l.r.count)) (lent_of l.log)
