-- The invariants of `net_check::writes_refusal`.
use mathlib.Core.Path.{◌≡◌}
use Prim.Native.Nat.{ℕ, ◌*◌, ◌≤◌}
use mathlib.Core.List.{List}
use lib.ListN.{take, drop}
use Rattle.lists.specs.Choice.{least}
use Rattle.lists.specs.Lists.{sum_by, least_by}
use Rattle.net_memory.specs.View.{writes_of, memory_of, write_size}
use Rattle.rules.specs.Refusal.{number_if}
use Rattle.net_check.specs.Number.{write_number}
use Rattle.net_check.proofs.writes_refusal.Given as goal

abbrev pub invariant-loop-port : goal.invariant-loop-port
invariant-loop-port l = (l.at ≡ sum_by write_size (take l.port-index l.fn.m.write_ports)) × (l.at ≤ l.port-index * 0x300000000) × ((trits : List ℕ) → least_by (write_number l.fn.next (memory_of l.fn.m l.fn.nets trits)) (writes_of l.fn.m l.fn.nets) ≡ least (number_if l.refusal) (least_by (write_number l.fn.next (memory_of l.fn.m l.fn.nets trits)) (drop l.port-index (writes_of l.fn.m l.fn.nets))))
