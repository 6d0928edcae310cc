-- The invariants of `net_check::reads_refusal`.
use mathlib.Core.Path.{◌≡◌}
use Prim.Native.Nat.{◌+◌, ◌*◌, ◌≤◌}
use lib.ListN.{take, drop}
use Rattle.lists.specs.Choice.{least}
use Rattle.lists.specs.Lists.{sum_by, least_by}
use Rattle.net_memory.specs.View.{reads_of, memory_of, trit_size, addr_size, reads_start}
use Rattle.rules.specs.Refusal.{number_if}
use Rattle.net_check.specs.Number.{read_number}
use Rattle.net_check.proofs.reads_refusal.Given as goal

abbrev pub invariant-loop-port : goal.invariant-loop-port
invariant-loop-port l = (l.at ≡ reads_start l.fn.given.memory + sum_by addr_size (take l.port-index l.fn.given.memory.read_ports)) × (l.from ≡ l.fn.given.memory.init_len + sum_by trit_size (take l.port-index l.fn.given.memory.read_ports)) × (l.at ≤ 0x1800000000 + l.port-index * 0x100000000) × (l.from ≤ 0x100000000 + l.port-index * 0x300000000) × (least_by (read_number l.fn.next (memory_of l.fn.given.memory l.fn.given.nets.now l.fn.given.trits.now)) (reads_of l.fn.given.memory l.fn.given.nets.now l.fn.given.trits.now) ≡ least (number_if l.refusal) (least_by (read_number l.fn.next (memory_of l.fn.given.memory l.fn.given.nets.now l.fn.given.trits.now)) (drop l.port-index (reads_of l.fn.given.memory l.fn.given.nets.now l.fn.given.trits.now))))
