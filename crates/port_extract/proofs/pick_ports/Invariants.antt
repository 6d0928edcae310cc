-- The invariants of `port_extract::pick_ports`.
use mathlib.Core.Path.{◌≡◌}
use mathlib.Core.List.{map}
use lib.ListN.{take}
use lib.Seq.{sets}
use Rattle.port_extract.specs.Extract.{new_port, with_read_ports}
use Rattle.port_extract.proofs.pick_ports.Given as goal

abbrev pub invariant-loop-j : goal.invariant-loop-j
invariant-loop-j l = (l.out ≡ with_read_ports l.initial.out l.initial.out.read_count (sets l.m.read_ports 0 (take l.j (map (new_port l.m) l.list))))
