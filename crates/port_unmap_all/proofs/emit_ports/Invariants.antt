-- The invariants of `port_unmap_all::emit_ports`.
use mathlib.Core.Path.{◌≡◌}
use lib.ListN.{length}
use Rattle.log_entries.specs.View.{lent_of}
use Rattle.net_memory.specs.View.{memory_of}
use Rattle.port_unmap_all.proofs.Walk.{Going}
use Rattle.port_unmap_all.proofs.emit_ports.Given as goal

abbrev pub invariant-loop-i : goal.invariant-loop-i
invariant-loop-i l = (length l.after ≡ length l.initial.after) × Going (memory_of l.fn.given.memory l.fn.given.nets.now l.fn.given.trits.now) l.output l.count l.initial.after (lent_of l.initial.log) l.i l.after (lent_of l.log)
