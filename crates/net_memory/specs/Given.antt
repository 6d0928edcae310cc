-- The memory as a call is given it by a struct and its two arrays: its view, and what only struct and arrays can break.
use Rattle.std.specs.Prelude.{ℕ, Bool, true, false, ◌&&◌, ◌||◌, not, List, length, eqb, ltb}
use Rattle.lists.specs.Lists.{any}
use Rattle.rules.specs.Limits.{max_ports}
use Rattle.rules.specs.Cell as rules
use Rattle.net_memory.specs.FlipFlop.{MemoryReadFlipFlop}
use Rattle.std.specs.Prelude.{None, Some}
use Rattle.net_memory.specs.declared.MemoryReadPort.{MemoryReadPort}
use Rattle.net_memory.specs.declared.Memory.{Memory}
use Rattle.net_memory.specs.declared.Given.{Given}
use Rattle.net_memory.specs.View.{read_ports_of, nets_total, trits_total, memory_of}

-- 1: more ports than there is place for
unfoldable pub too_many_ports : Memory → Bool
too_many_ports m = ltb max_ports m.write_count || ltb max_ports m.read_count

-- 2: a clocked port says more relations than there is place for
abbrev pub clocked : MemoryReadFlipFlop → Bool
clocked None = false
clocked (Some f) = true

unfoldable pub long_relations : MemoryReadPort → Bool
long_relations p = clocked p.flip_flop && ltb max_ports p.relations_len

-- 2: the arrays are not as long as the struct says
unfoldable pub bad_lens : Memory → ℕ → ℕ → Bool
bad_lens m nets trits = not (eqb nets (nets_total m)) || (not (eqb trits (trits_total m)) || any long_relations (read_ports_of m))

abbrev pub given_of : Memory → List ℕ → List ℕ → rules.Given
given_of m nets trits = record { mem = memory_of m nets trits; extra_ports = too_many_ports m; wrong_lens = bad_lens m (length nets) (length trits) }

-- the same of the struct that holds all three, and the memory in it
abbrev pub view_given : Given → rules.Given
view_given g = given_of g.memory g.nets.now g.trits.now

abbrev pub mem_of : Given → rules.Mem
mem_of g = memory_of g.memory g.nets.now g.trits.now
