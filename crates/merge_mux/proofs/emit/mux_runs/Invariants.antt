-- The invariants of `merge_mux::emit::mux_runs`.
use mathlib.Core.Path.{◌≡◌}
use Prim.Native.Nat.{◌-◌}
use lib.ListN.{length}
use Rattle.merge_mux.proofs.Bitwise.{Going}
use Rattle.log_entries.specs.View.{lent_of}
use Rattle.merge_mux.proofs.emit.mux_runs.Given as goal

abbrev pub invariant-loop-i : goal.invariant-loop-i
invariant-loop-i l = (length l.nets ≡ length l.initial.nets) × Going l.s l.a l.b l.initial.nets l.nets (lent_of l.initial.log) (lent_of l.log) l.i

abbrev pub decreases-loop-i : goal.decreases-loop-i
decreases-loop-i l = length l.s - l.i
