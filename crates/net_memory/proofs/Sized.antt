-- What a memory by value tells of the lengths of its arrays.
use mathlib.Core.Path.{◌≡◌, ◌∙◌}
use Prim.Native.Nat.{ℕ, min}
use native.Mathlib.Omega.{arith}
use mathlib.Core.List.{List, []}
use lib.ListN.{length, drop, length-take}
use mir.Val.{Val}
use denote.Laws.{Is}
use denote.Struct.Declared as declared
use Rattle.lists.proofs.Views.{length_views}
use Rattle.rules.specs.Limits.{max_ports}
use Rattle.net_memory.specs.View.{write_ports_of, read_ports_of, write_size, addr_size, trit_size, no_trits, write_by, read_by, writes_of, reads_of, reads_start}
use Rattle.net_memory.specs.declared.MemoryReadPort as port
use Rattle.net_memory.specs.declared.Memory as spec
use Rattle.net_memory.specs.contracts.Memory
use Rattle.net_memory.specs.contracts.MemoryReadPort

module _ (m : spec.Memory) (vs : List Val) (g : Is (declared.row Memory.the_type) m vs) where
  pub write_ports_8 : length m.write_ports ≡ 8
  write_ports_8 = g.1.1.1.1.1.1.1.0.1.0.1

  pub read_ports_8 : length m.read_ports ≡ 8
  read_ports_8 = g.1.1.1.1.1.1.1.1.0.1.0.1

  pub write_ports_length : length (write_ports_of m) ≡ min max_ports m.write_count
  write_ports_length = omega (arith, length-take (min max_ports m.write_count) m.write_ports, write_ports_8)

  pub read_ports_length : length (read_ports_of m) ≡ min max_ports m.read_count
  read_ports_length = omega (arith, length-take (min max_ports m.read_count) m.read_ports, read_ports_8)

  -- as many ports as the count says, up to eight
  pub writes_length : (nets : List ℕ) → length (writes_of m nets) ≡ min max_ports m.write_count
  writes_length nets = length_views write_size no_trits write_by (write_ports_of m) nets [] ∙ write_ports_length

  pub reads_length : (nets trits : List ℕ) → length (reads_of m nets trits) ≡ min max_ports m.read_count
  reads_length nets trits =
      length_views addr_size trit_size read_by (read_ports_of m) (drop (reads_start m) nets) (drop m.init_len trits) ∙ read_ports_length

pub relations_8 : (p : port.MemoryReadPort) (vs : List Val) → Is (declared.row MemoryReadPort.the_type) p vs → length p.relations ≡ 8
relations_8 p vs g = g.1.1.1.1.1.1.1.1.0.1.0.1
