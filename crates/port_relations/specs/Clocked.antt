-- What the code asks of the structs of read ports, and their flip-flops as the rules have them.
use Rattle.std.specs.Prelude.{ℕ, Bool, false, ◌&&◌, not, List, [], ◌∷◌, drop, get_or, eqb}
use Rattle.lists.specs.Lists.{any, part}
use Rattle.rules.specs.Value.{Control, same_control}
use Rattle.rules.specs.Cell.{ReadFlipFlop, flip_flops, Undefined, ReadBeforeWrite, Transparent}
use Rattle.net_value.specs.View.{control_of}
use Rattle.net_memory.specs.FlipFlop.{MemoryReadFlipFlop}
use Rattle.std.specs.Prelude.{None, Some}
use Rattle.net_memory.specs.declared.MemoryReadPort.{MemoryReadPort}
use Rattle.net_memory.specs.declared.Memory.{Memory}
use Rattle.net_memory.specs.Given.{clocked}
use Rattle.net_memory.specs.View.{reads_of}

-- a flip-flop of another clock
abbrev pub other_clock : Control → ReadFlipFlop → Bool
other_clock k f = not (same_control f.controls.clock k)

abbrev pub differs : Control → MemoryReadFlipFlop → Bool
differs k None = false
differs k (Some c) = not (same_control (control_of c.clock) k)

abbrev pub port_differs : Control → MemoryReadPort → Bool
port_differs k p = differs k p.flip_flop

-- two clocked ports of these have different clocks: one of those behind the first clocked one has another
abbrev pub first_differs : MemoryReadFlipFlop → List MemoryReadPort → Bool → Bool
first_differs None ps rest = rest
first_differs (Some c) ps rest = any (port_differs (control_of c.clock)) ps

abbrev pub clocks_differ_of : List MemoryReadPort → Bool
clocks_differ_of [] = false
clocks_differ_of (p ∷ ps) = first_differs p.flip_flop ps (clocks_differ_of ps)

-- a flip-flop with this relation to write port j
abbrev pub has_relation : ℕ → ℕ → ReadFlipFlop → Bool
has_relation code j f = eqb (get_or f.relations j Undefined) code

abbrev pub port_relates : ℕ → ℕ → MemoryReadPort → Bool
port_relates code j p = clocked p.flip_flop && eqb (get_or (part 0 p.relations_len p.relations) j Undefined) code

-- both ReadBeforeWrite and Transparent relate these ports to write port j
abbrev pub mixed_ports : List MemoryReadPort → ℕ → Bool
mixed_ports ps j = any (port_relates ReadBeforeWrite j) ps && any (port_relates Transparent j) ps

-- the flip-flops of the read ports from port i on
abbrev pub flip_flops_from : Memory → List ℕ → List ℕ → ℕ → List ReadFlipFlop
flip_flops_from m nets trits i = flip_flops (drop i (reads_of m nets trits))
