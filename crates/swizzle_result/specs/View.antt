-- The memories that a struct and three lent arrays hold.
-- The nets: for each write port the address, then the data and the mask of all memories, memory after memory; then for each read port the address.
-- The trits: for each clocked read port clear, reset and init of all memories, memory after memory. The image: the memories' trits in order.
use Rattle.std.specs.Prelude.{ℕ, suc, ◌+◌, ◌-◌, ◌*◌, ◌^◌, min, List, [], map, take, drop}
use Rattle.std.proofs.Math.Option.{Option, none, some}
use Rattle.lists.specs.Lists.{sum_by, part, up_from, concat_map}
use Rattle.lists.specs.Views.{views}
use Rattle.rules.specs.Limits.{max_ports}
use Rattle.rules.specs.Cell as rules
use Rattle.rules.specs.Ports.{Driving}
use Rattle.rules.specs.Image.{depth_at, rows_before}
use Rattle.net_value.specs.View.{control_of}
use Rattle.net_flip_flop.specs.View.{controls_of}
use Rattle.net_memory.specs.FlipFlop.{MemoryReadFlipFlop}
use Rattle.std.specs.Prelude.{None, Some}
use Rattle.swizzle_result.specs.declared.WideWritePort.{WideWritePort}
use Rattle.swizzle_result.specs.declared.WideReadPort.{WideReadPort}
use Rattle.swizzle_result.specs.declared.WideMemory.{WideMemory}

-- a memory's bits of a port with this wide log, and those of all memories
abbrev pub own : WideMemory → ℕ → ℕ
own g wide = 2 ^ wide * g.unit

abbrev pub whole : WideMemory → ℕ → ℕ
whole g wide = g.mems * own g wide

-- the ports in use
abbrev pub write_ports_of : WideMemory → List WideWritePort
write_ports_of g = take (min max_ports g.write_count) g.write_ports

abbrev pub read_ports_of : WideMemory → List WideReadPort
read_ports_of g = take (min max_ports g.read_count) g.read_ports

-- how many nets, and how many trits, a port has
abbrev pub write_size : WideMemory → WideWritePort → ℕ
write_size g p = p.addr_len + (whole g p.wide + whole g p.wide)

abbrev pub addr_size : WideReadPort → ℕ
addr_size p = p.addr_len

abbrev pub trits_if : MemoryReadFlipFlop → ℕ → ℕ
trits_if None n = 0
trits_if (Some f) n = n + (n + n)

abbrev pub trit_size : WideMemory → WideReadPort → ℕ
trit_size g p = trits_if p.flip_flop (whole g p.wide)

abbrev pub no_trits : WideWritePort → ℕ
no_trits p = 0

-- memory n's port with the nets x and the trits y of all memories
abbrev pub write_by : WideMemory → ℕ → WideWritePort → List ℕ → List ℕ → rules.WritePort
write_by g n p x y = record {
  addr = part 0 p.addr_len x;
  bits = part (p.addr_len + n * own g p.wide) (own g p.wide) x;
  mask = part (p.addr_len + whole g p.wide + n * own g p.wide) (own g p.wide) x;
  clock = control_of p.clock;
}

abbrev pub flip_flop_by : MemoryReadFlipFlop → WideMemory → ℕ → WideReadPort → List ℕ → Option rules.ReadFlipFlop
flip_flop_by None g n p y = none
flip_flop_by (Some f) g n p y = some (record {
  controls = controls_of f;
  clear_value = part (n * own g p.wide) (own g p.wide) y;
  reset_value = part (whole g p.wide + n * own g p.wide) (own g p.wide) y;
  init_value = part (whole g p.wide + whole g p.wide + n * own g p.wide) (own g p.wide) y;
  relations = part 0 p.relations_len p.relations;
})

abbrev pub read_by : WideMemory → ℕ → WideReadPort → List ℕ → List ℕ → rules.ReadPort
read_by g n p x y = record { addr = part 0 p.addr_len x; data_len = g.unit * 2 ^ p.wide; flip_flop = flip_flop_by p.flip_flop g n p y }

-- memory n's outputs of a port: those of its columns in each row
abbrev pub output_by : WideMemory → ℕ → WideReadPort → List ℕ
output_by g n p = concat_map (λ r. up_from (p.first + (r * (g.mems * g.unit) + n * g.unit)) g.unit) (up_from 0 (2 ^ p.wide))

abbrev pub reads_start : WideMemory → ℕ
reads_start g = sum_by (write_size g) (write_ports_of g)

-- where memory n's trits start in the image
abbrev pub start_by : WideMemory → ℕ → ℕ
start_by g n = rows_before g.full g.full_depth g.part_depth n * g.unit

abbrev pub result_of : WideMemory → List ℕ → List ℕ → List ℕ → ℕ → Driving
result_of g nets trits image n = record {
  memory = record {
    depth = depth_at g.full g.full_depth g.part_depth n;
    width = g.unit;
    init = part (start_by g n) (start_by g (suc n) - start_by g n) image;
    writes = views (write_size g) no_trits (write_by g n) (write_ports_of g) nets [];
    reads = views addr_size (trit_size g) (read_by g n) (read_ports_of g) (drop (reads_start g) nets) trits;
  };
  output = concat_map (output_by g n) (read_ports_of g);
}

unfoldable pub results_of : WideMemory → List ℕ → List ℕ → List ℕ → List Driving
results_of g nets trits image = map (result_of g nets trits image) (up_from 0 g.mems)

-- how many nets and trits the arrays have
unfoldable pub nets_total : WideMemory → ℕ
nets_total g = reads_start g + sum_by addr_size (read_ports_of g)

unfoldable pub trits_total : WideMemory → ℕ
trits_total g = sum_by (trit_size g) (read_ports_of g)
