-- The memory that a struct and the two lent arrays hold.
-- The nets: for each write port its address, data and mask, then for each read port its address. The trits: the initial ones, then for each
-- read port those of clear, reset and init, also where it has no flip-flop. Each part starts where the one before ends, and takes as many
-- elements as the struct says, or as there are.
use Rattle.std.specs.Prelude.{ℕ, ◌+◌, min, List, [], take, drop, get_or, set}
use Rattle.std.proofs.Math.Option.{Option, none, some}
use Rattle.lists.specs.Lists.{sum_by, part}
use Rattle.lists.specs.Views.{views}
use Rattle.rules.specs.Limits.{max_ports}
use Rattle.rules.specs.Cell as rules
use Rattle.net_value.specs.declared.ControlNet.TheVariants.{Pos}
use Rattle.net_value.specs.View.{control_of}
use Rattle.net_flip_flop.specs.declared.Controls.{Controls}
use Rattle.net_flip_flop.specs.View.{controls_of}
use Rattle.net_memory.specs.declared.MemoryWritePort.{MemoryWritePort}
use Rattle.net_memory.specs.FlipFlop.{MemoryReadFlipFlop}
use Rattle.std.specs.Prelude.{None, Some}
use Rattle.net_memory.specs.declared.MemoryReadPort.{MemoryReadPort}
use Rattle.net_memory.specs.declared.Memory.{Memory}

-- what stands past the last port
abbrev pub no_write_port : MemoryWritePort
no_write_port = record { addr_len = 0; data_len = 0; mask_len = 0; clock = Pos (record { 0 = 0 }) }

abbrev pub no_read_port : MemoryReadPort
no_read_port = record {
  addr_len = 0;
  data_len = 0;
  clear_len = 0;
  reset_len = 0;
  init_len = 0;
  relations_len = 0;
  relations = [];
  flip_flop = None;
}

-- the ports in use: at most as many as there is place for
abbrev pub write_ports_of : Memory → List MemoryWritePort
write_ports_of m = take (min max_ports m.write_count) m.write_ports

abbrev pub read_ports_of : Memory → List MemoryReadPort
read_ports_of m = take (min max_ports m.read_count) m.read_ports

-- how many nets, and how many trits, a port has
abbrev pub write_size : MemoryWritePort → ℕ
write_size p = p.addr_len + p.data_len + p.mask_len

abbrev pub addr_size : MemoryReadPort → ℕ
addr_size p = p.addr_len

abbrev pub trit_size : MemoryReadPort → ℕ
trit_size p = p.clear_len + p.reset_len + p.init_len

abbrev pub no_trits : MemoryWritePort → ℕ
no_trits p = 0

-- a write port with the nets x
abbrev pub write_by : MemoryWritePort → List ℕ → List ℕ → rules.WritePort
write_by p x y = record {
  addr = part 0 p.addr_len x;
  bits = part p.addr_len p.data_len x;
  mask = part (p.addr_len + p.data_len) p.mask_len x;
  clock = control_of p.clock;
}

-- a flip-flop of these controls with the trits y
abbrev pub clocked_by : Controls → MemoryReadPort → List ℕ → rules.ReadFlipFlop
clocked_by f p y = record {
  controls = controls_of f;
  clear_value = part 0 p.clear_len y;
  reset_value = part p.clear_len p.reset_len y;
  init_value = part (p.clear_len + p.reset_len) p.init_len y;
  relations = part 0 p.relations_len p.relations;
}

abbrev pub flip_flop_by : MemoryReadFlipFlop → MemoryReadPort → List ℕ → Option rules.ReadFlipFlop
flip_flop_by None p y = none
flip_flop_by (Some f) p y = some (clocked_by f p y)

-- a read port with the nets x and the trits y
abbrev pub read_by : MemoryReadPort → List ℕ → List ℕ → rules.ReadPort
read_by p x y = record { addr = part 0 p.addr_len x; data_len = p.data_len; flip_flop = flip_flop_by p.flip_flop p y }

abbrev pub writes_of : Memory → List ℕ → List rules.WritePort
writes_of m nets = views write_size no_trits write_by (write_ports_of m) nets []

-- where the read ports' nets start
abbrev pub reads_start : Memory → ℕ
reads_start m = sum_by write_size (write_ports_of m)

abbrev pub reads_of : Memory → List ℕ → List ℕ → List rules.ReadPort
reads_of m nets trits = views addr_size trit_size read_by (read_ports_of m) (drop (reads_start m) nets) (drop m.init_len trits)

unfoldable pub memory_of : Memory → List ℕ → List ℕ → rules.Mem
memory_of m nets trits = record {
  depth = m.depth;
  width = m.width;
  init = part 0 m.init_len trits;
  writes = writes_of m nets;
  reads = reads_of m nets trits;
}

-- the struct of the port of a number, and where its nets and its trits start
abbrev pub write_port : Memory → ℕ → MemoryWritePort
write_port m i = get_or m.write_ports i no_write_port

abbrev pub write_start : Memory → ℕ → ℕ
write_start m i = sum_by write_size (take i m.write_ports)

abbrev pub read_port : Memory → ℕ → MemoryReadPort
read_port m i = get_or m.read_ports i no_read_port

abbrev pub read_start : Memory → ℕ → ℕ
read_start m i = reads_start m + sum_by addr_size (take i m.read_ports)

abbrev pub trit_start : Memory → ℕ → ℕ
trit_start m i = m.init_len + sum_by trit_size (take i m.read_ports)

-- how many nets and trits the struct says in all
unfoldable pub nets_total : Memory → ℕ
nets_total m = reads_start m + sum_by addr_size (read_ports_of m)

unfoldable pub trits_total : Memory → ℕ
trits_total m = m.init_len + sum_by trit_size (read_ports_of m)

-- the nets of write port i, and the nets and trits of read port i; none where there is no such port
abbrev pub write_nets : Memory → List ℕ → ℕ → List ℕ
write_nets m nets i = get_or (views {B = ℕ} write_size no_trits (λ p x y. x) (write_ports_of m) nets []) i []

abbrev pub read_nets : Memory → List ℕ → ℕ → List ℕ
read_nets m nets i = get_or (views {B = ℕ} addr_size trit_size (λ p x y. x) (read_ports_of m) (drop (reads_start m) nets) []) i []

abbrev pub read_trits : Memory → List ℕ → ℕ → List ℕ
read_trits m trits i = get_or (views {A = ℕ} addr_size trit_size (λ p x y. y) (read_ports_of m) [] (drop m.init_len trits)) i []

-- a struct with port i exchanged
abbrev pub with_write_port : Memory → ℕ → MemoryWritePort → Memory
with_write_port m i p = record {
  depth = m.depth;
  width = m.width;
  init_len = m.init_len;
  write_count = m.write_count;
  read_count = m.read_count;
  write_ports = set m.write_ports i p;
  read_ports = m.read_ports;
}

abbrev pub with_read_port : Memory → ℕ → MemoryReadPort → Memory
with_read_port m i p = record {
  depth = m.depth;
  width = m.width;
  init_len = m.init_len;
  write_count = m.write_count;
  read_count = m.read_count;
  write_ports = m.write_ports;
  read_ports = set m.read_ports i p;
}
