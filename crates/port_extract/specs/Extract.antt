-- The answer of `extract_read_ports` on a machine's memory, as the rules have it, and what the code stores.
use Rattle.std.specs.Prelude.{◌≡◌, ℕ, ◌<◌, ◌≤◌, min, List, [], ◌++◌, map, length, get_or, take, Result, Ok, Err, ⊤}
use Rattle.std.proofs.lemmas.List.Edits.{sets}
use Rattle.lists.specs.Lists.{part, concat_map}
use Rattle.rules.specs.Limits.{max_ports}
use Rattle.rules.specs.Cell.{output_len, flat_nets, flat_trits}
use Rattle.rules.specs.Ports.{Driving, extract_read_ports}
use Rattle.rules.specs.Answers as rules
use Rattle.net_memory.specs.FlipFlop.{MemoryReadFlipFlop}
use Rattle.std.specs.Prelude.{None, Some}
use Rattle.net_memory.specs.declared.MemoryReadPort.{MemoryReadPort}
use Rattle.net_memory.specs.declared.Memory.{Memory}
use Rattle.net_memory.specs.View.{no_read_port, read_ports_of, reads_start, memory_of, read_nets, read_trits, nets_total, trits_total}
use Rattle.rules.specs.declared.numbers.Refusal.{Refusal}
use Rattle.rules.specs.Refusal.{answer_by}

-- the memory and the outputs that a struct and the rooms hold
abbrev pub driving_of : Memory → List ℕ → List ℕ → List ℕ → Driving
driving_of m nets trits output = record { memory = memory_of m nets trits; output = take (output_len (memory_of m nets trits)) output }

-- the answer, and the rooms after the call
abbrev pub extracted_of : Result Memory Refusal → List ℕ → List ℕ → List ℕ → rules.Extracted
extracted_of r nets trits output = record {
  answer = answer_by (λ m. driving_of m nets trits output) r;
  nets = nets;
  trits = trits;
  output = output;
}

-- the struct of a port
abbrev pub port_of : Memory → ℕ → MemoryReadPort
port_of m k = get_or (read_ports_of m) k no_read_port

-- what is kept of a length and of a port's trits: nothing without a flip-flop
abbrev pub kept_len : MemoryReadFlipFlop → ℕ → ℕ
kept_len None n = 0
kept_len (Some f) n = n

abbrev pub kept_list : MemoryReadFlipFlop → List ℕ → List ℕ
kept_list None y = []
kept_list (Some f) y = y

-- the struct of a port in the new memory
abbrev pub kept_by_of : MemoryReadFlipFlop → MemoryReadPort → MemoryReadPort
kept_by_of f p = record {
  addr_len = p.addr_len;
  data_len = p.data_len;
  clear_len = kept_len f p.clear_len;
  reset_len = kept_len f p.reset_len;
  init_len = kept_len f p.init_len;
  relations_len = p.relations_len;
  relations = p.relations;
  flip_flop = p.flip_flop;
}

abbrev pub kept_port : MemoryReadPort → MemoryReadPort
kept_port p = kept_by_of p.flip_flop p

abbrev pub new_port : Memory → ℕ → MemoryReadPort
new_port m k = kept_port (port_of m k)

-- the trits of a port in the new memory
abbrev pub kept_trits : Memory → List ℕ → ℕ → List ℕ
kept_trits m trits k = kept_list (port_of m k).flip_flop (read_trits m trits k)

-- the struct with other read ports
abbrev pub with_read_ports : Memory → ℕ → List MemoryReadPort → Memory
with_read_ports m count ps = record {
  depth = m.depth;
  width = m.width;
  init_len = m.init_len;
  write_count = m.write_count;
  read_count = count;
  write_ports = m.write_ports;
  read_ports = ps;
}

-- the struct with the listed ports
abbrev pub with_ports : Memory → List ℕ → Memory
with_ports m list = with_read_ports m (length list) (sets m.read_ports 0 (map (new_port m) list))

-- the new nets: those of the write ports, then the addresses of the listed ports
abbrev pub new_nets : Memory → List ℕ → List ℕ → List ℕ
new_nets m nets list = part 0 (reads_start m) nets ++ concat_map (read_nets m nets) list

-- the new trits: the initial ones, then those of the listed ports
abbrev pub new_trits : Memory → List ℕ → List ℕ → List ℕ
new_trits m trits list = part 0 m.init_len trits ++ concat_map (kept_trits m trits) list

-- what the rules extract
abbrev pub extraction_of : Memory → List ℕ → List ℕ → List ℕ → List ℕ → Driving
extraction_of m nets trits list output = extract_read_ports (memory_of m nets trits) list output

-- the new outputs
abbrev pub new_output : Memory → List ℕ → List ℕ → List ℕ → List ℕ → List ℕ
new_output m nets trits list output = (extraction_of m nets trits list output).output

-- the struct w of a memory with the listed ports, and how many places of the rooms its nets and trits take
pub record WithPorts (m : Memory) (nets trits list output : List ℕ) (w : Memory) : Type 0 where
  pub struct_is : w ≡ with_ports m list
  pub nets_long : nets_total w ≡ length (flat_nets (extraction_of m nets trits list output).memory)
  pub trits_long : trits_total w ≡ length (flat_trits (extraction_of m nets trits list output).memory)

-- the struct of an accepted call is so
abbrev pub NewStruct : Memory → List ℕ → List ℕ → List ℕ → List ℕ → Result Memory Refusal → Type 0
NewStruct m nets trits list output (Ok w) = WithPorts m nets trits list output w
NewStruct m nets trits list output (Err e) = ⊤

-- a list of ports that there are
pub record ListedPorts (m : Memory) (list : List ℕ) : Type 0 where
  pub few : length list ≤ 8
  pub there : (j : ℕ) → j < length list → get_or list j 0 < min max_ports m.read_count

-- such a list, and arrays as long as the struct says
pub record Ready (m : Memory) (nets trits list : List ℕ) : Type 0 where
  pub listed : ListedPorts m list
  pub nets_exact : length nets ≡ nets_total m
  pub trits_exact : length trits ≡ trits_total m
