-- The struct of a memory after an emulation, word by word: write ports that are delayed at the other edge of their clock, relations to them Undefined.
use Rattle.std.specs.Prelude.{ℕ, zero, suc, min, Bool, List, [], ◌∷◌, map}
use Rattle.lists.specs.Choice.{when◌then◌else◌}
use Rattle.lists.specs.Lists.{any}
use Rattle.rules.specs.Limits.{max_ports}
use Rattle.rules.specs.Value as rules
use Rattle.rules.specs.Value.{inverse}
use Rattle.rules.specs.Cell.{WritePort, Mem, Undefined, ReadBeforeWrite}
use Rattle.rules.specs.Ports.{settled_port}
use Rattle.net_value.specs.declared.ControlNet.{ControlNet}
use Rattle.net_value.specs.declared.ControlNet.TheVariants.{Pos, Neg}
use Rattle.net_value.specs.View.{control_of}
use Rattle.net_memory.specs.declared.MemoryWritePort.{MemoryWritePort}
use Rattle.net_memory.specs.declared.MemoryReadPort.{MemoryReadPort}
use Rattle.net_memory.specs.declared.Memory.{Memory}
use Rattle.port_relations.specs.Clocked.{has_relation, port_relates, flip_flops_from}

-- some read port reads before write port j writes
abbrev pub is_read : Memory → List ℕ → List ℕ → ℕ → Bool
is_read m nets trits j = any (has_relation ReadBeforeWrite j) (flip_flops_from m nets trits 0)

-- the same of the structs of the read ports
abbrev pub reads_before : List MemoryReadPort → ℕ → Bool
reads_before ps j = any (port_relates ReadBeforeWrite j) ps

-- ---- the memory
-- a port at the other edge of its clock, by this test
abbrev pub turned_by : Bool → WritePort → WritePort
turned_by b w = when b then record { addr = w.addr; bits = w.bits; mask = w.mask; clock = inverse w.clock } else w

-- the ports from j on, each by its test
abbrev pub turned_from : (ℕ → Bool) → ℕ → List WritePort → List WritePort
turned_from is j [] = []
turned_from is j (w ∷ ws) = turned_by (is j) w ∷ turned_from is (suc j) ws

abbrev pub turned_mem : (ℕ → Bool) → Mem → Mem
turned_mem is v = record { depth = v.depth; width = v.width; init = v.init; writes = turned_from is 0 v.writes; reads = v.reads }

-- v with its relations settled by those of m
abbrev pub settled_mem : Mem → Mem → Mem
settled_mem m v = record { depth = v.depth; width = v.width; init = v.init; writes = v.writes; reads = map (settled_port m) v.reads }

-- ---- the struct
-- a control as the machine has it
abbrev pub net_of : rules.Control → ControlNet
net_of (rules.Pos n) = Pos (record { 0 = n })
net_of (rules.Neg n) = Neg (record { 0 = n })

abbrev pub other_edge_of : MemoryWritePort → MemoryWritePort
other_edge_of p = record { addr_len = p.addr_len; data_len = p.data_len; mask_len = p.mask_len; clock = net_of (inverse (control_of p.clock)) }

abbrev pub turned_port : Bool → MemoryWritePort → MemoryWritePort
turned_port b p = when b then other_edge_of p else p

-- a relation to a port, by whether that one is delayed
abbrev pub undefined_if : Bool → ℕ → ℕ
undefined_if b r = when b then Undefined else r

-- the first n elements of a list changed, each by its number; that of the first is s
abbrev pub first_changed : {A : Type 0} → (ℕ → A → A) → ℕ → ℕ → List A → List A
first_changed f s zero l = l
first_changed f s (suc n) [] = []
first_changed f s (suc n) (x ∷ l) = f s x ∷ first_changed f (suc s) n l

abbrev pub with_relations : MemoryReadPort → List ℕ → MemoryReadPort
with_relations p rs = record {
  addr_len = p.addr_len;
  data_len = p.data_len;
  clear_len = p.clear_len;
  reset_len = p.reset_len;
  init_len = p.init_len;
  relations_len = p.relations_len;
  relations = rs;
  flip_flop = p.flip_flop;
}

-- a read port whose first n relations are settled, and one whose relations all are
abbrev pub relations_by : (ℕ → Bool) → ℕ → MemoryReadPort → MemoryReadPort
relations_by is n p = with_relations p (first_changed (λ j. undefined_if (is j)) 0 n p.relations)

abbrev pub settled_by : (ℕ → Bool) → MemoryReadPort → MemoryReadPort
settled_by is p = relations_by is p.relations_len p

abbrev pub with_ports : Memory → List MemoryWritePort → List MemoryReadPort → Memory
with_ports m ws rs = record {
  depth = m.depth;
  width = m.width;
  init_len = m.init_len;
  write_count = m.write_count;
  read_count = m.read_count;
  write_ports = ws;
  read_ports = rs;
}

-- the first n write ports turned, and the first n read ports settled
abbrev pub turning : (ℕ → Bool) → ℕ → Memory → Memory
turning is n m = with_ports m (first_changed (λ j. turned_port (is j)) 0 n m.write_ports) m.read_ports

abbrev pub settling : (ℕ → Bool) → ℕ → Memory → Memory
settling is n m = with_ports m m.write_ports (first_changed (λ _. settled_by is) 0 n m.read_ports)

-- all ports in use
abbrev pub settled_memory : (ℕ → Bool) → Memory → Memory
settled_memory is m = settling is (min max_ports m.read_count) (turning is (min max_ports m.write_count) m)
