-- The invariants of `port_emulate::Emulation::delay_ports`.
use mathlib.Core.Path.{◌≡◌}
use Prim.Native.Nat.{◌*◌, ◌≤◌}
use Rattle.log_entries.specs.View.{lent_of}
use Rattle.net_memory.specs.View.{write_start}
use Rattle.port_emulate.proofs.Ports.{Going}
use Rattle.port_emulate.proofs.Emulation.delay_ports.Given as goal

abbrev pub invariant-loop-j : goal.invariant-loop-j
invariant-loop-j l = (l.at ≤ l.j * 0x300000000) × (l.at ≡ write_start l.self.memory.now l.j) × Going l.self.memory.now l.self.all_x l.initial.nets (lent_of l.initial.log) l.j l.nets (lent_of l.log)
