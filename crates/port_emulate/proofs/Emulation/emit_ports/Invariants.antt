-- The invariants of `port_emulate::Emulation::emit_ports`.
use mathlib.Core.Path.{◌≡◌}
use Prim.Native.Nat.{ℕ}
use mathlib.Core.List.{List}
use lib.ListN.{drop}
use Rattle.log_entries.specs.Emission.{run}
use Rattle.log_entries.specs.View.{lent_of}
use Rattle.net_memory.specs.View.{writes_of}
use Rattle.port_settle.specs.Settled.{is_read}
use Rattle.port_emulate.specs.Delays.{delays}
use Rattle.port_emulate.proofs.Emulation.emit_ports.Given as goal

abbrev pub invariant-loop-j : goal.invariant-loop-j
invariant-loop-j l = (x y : List ℕ) → run (delays (is_read l.self.memory.now x y) l.self.all_x l.j (drop l.j (writes_of l.self.memory.now l.fn.nets))) (lent_of l.log) ≡ run (delays (is_read l.self.memory.now x y) l.self.all_x 0 (writes_of l.self.memory.now l.fn.nets)) (lent_of l.initial.log)
