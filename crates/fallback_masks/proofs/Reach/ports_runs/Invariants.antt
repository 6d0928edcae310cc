-- The invariants of `fallback_masks::Reach::ports_runs`.
use Prim.Native.Nat.{◌*◌, ◌≤◌}
use Rattle.net_memory.specs.View.{writes_of}
use Rattle.fallback_masks.specs.Steps.{runs_by_of, port_most}
use Rattle.fallback_masks.proofs.Numbers.{Summing}
use Rattle.fallback_masks.proofs.Reach.ports_runs.Given as goal

abbrev pub invariant-loop-i : goal.invariant-loop-i
invariant-loop-i l = (l.runs ≤ l.i * port_most) × Summing (runs_by_of l.fn.self.depth l.fn.self.width l.fn.self.rows) (writes_of l.fn.given.memory l.fn.given.nets.now) l.runs l.i
