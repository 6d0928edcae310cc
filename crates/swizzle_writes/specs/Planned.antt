-- What a swizzle whose number is 0 gives of its layout and of each write port.
use Rattle.std.specs.Prelude.{ℕ, suc, ◌+◌, ◌-◌, ◌*◌, ◌^◌, ◌<◌, ◌≤◌, List, [], ◌∷◌, ◌++◌, length, set}
use Rattle.std.proofs.lemmas.List.Edits.{sets}
use Rattle.lists.specs.Lists.{concat_map}
use Rattle.rules.specs.Limits.{addr_bits, max_wide, max_columns, max_row, max_width, max_nets}
use Rattle.rules.specs.Numbers.{softs}
use Rattle.rules.specs.Value.{Value}
use Rattle.rules.specs.Cell.{WritePort, Mem, write_wide_log2}
use Rattle.rules.specs.Geometry.{Layout, row_len_of, all_chunks, soft, columns}
use Rattle.rules.specs.Swizzle.{split_addr, WideWrite}
use Rattle.net_memory.specs.declared.MemoryWritePort.{MemoryWritePort}
use Rattle.swizzle_laws.specs.Order.{ordered}
use Rattle.swizzle_result.specs.declared.WideWritePort.{WideWritePort}
use Rattle.swizzle_writes.specs.Placed.{Filled, port_by}

-- the layout's sizes are within the limits, and there are columns
pub record LayoutPlanned (q : Layout) : Type 0 where
  pub unit_pos : 0 < q.unit
  pub some : 0 < columns q
  pub columns_max : columns q ≤ max_columns
  pub row_max : row_len_of q ≤ max_row
  pub width_max : q.width ≤ max_width
  pub hard_max : q.hard ≤ addr_bits
  pub chunks_max : all_chunks q * 2 ^ soft q ≤ max_columns

-- the wide logs are within the limits, the address can be split, and the pieces can be counted
pub record PortPlanned (q : Layout) (old new : ℕ) (addr : Value) : Type 0 where
  pub old_max : old ≤ max_wide
  pub new_max : new ≤ max_wide
  pub new_hard : new ≤ q.hard
  pub enough : old - softs old q.soft_mask ≤ new
  pub short : old + length addr ≤ addr_bits
  pub pieces_max : (split_addr q old new addr).pieces ≤ max_nets

-- the nets of a write port with this new wide log, and those of all
unfoldable pub port_nets : Mem → Layout → WritePort → ℕ → ℕ
port_nets m q w n = length (split_addr q (write_wide_log2 m w) n w.addr).addr + (2 ^ n * columns q + 2 ^ n * columns q)

unfoldable pub total_nets : Mem → Layout → List WritePort → List ℕ → ℕ
total_nets m q [] ns = 0
total_nets m q (w ∷ ws) [] = 0
total_nets m q (w ∷ ws) (n ∷ ns) = port_nets m q w n + total_nets m q ws ns

-- each port is within the limits; there are as many new wide logs as ports
unfoldable pub PortsPlanned : Mem → Layout → List WritePort → List ℕ → Type 0
PortsPlanned m q [] [] = Unit
PortsPlanned m q [] (n ∷ ns) = ⊥
PortsPlanned m q (w ∷ ws) [] = ⊥
PortsPlanned m q (w ∷ ws) (n ∷ ns) = PortPlanned q (write_wide_log2 m w) n w.addr × PortsPlanned m q ws ns

-- what the write ports of a memory ask of its layout, the new wide logs and the room for nets
pub record WritePlanned (m : Mem) (q : Layout) (ns : List ℕ) (room : ℕ) : Type 0 where
  pub layout : LayoutPlanned q
  pub ports : PortsPlanned m q m.writes ns
  pub enough : total_nets m q m.writes ns ≤ room

-- a wide port's nets: its address, and its data and mask in the order of the memories
unfoldable pub wide_nets : Layout → WideWrite → List ℕ
wide_nets q x = x.port.addr ++ (ordered q x.split x.port.bits ++ ordered q x.split x.port.mask)

-- the ports of the result
unfoldable pub ports_by : Mem → Layout → List MemoryWritePort → ℕ → List WritePort → List ℕ → List WideWritePort → List WideWritePort
ports_by m q ps j [] ns l = l
ports_by m q ps j (w ∷ ws) [] l = l
ports_by m q ps j (w ∷ ws) (n ∷ ns) l = ports_by m q ps (suc j) ws ns (set l j (port_by ps j n (length (split_addr q (write_wide_log2 m w) n w.addr).addr)))

-- what is left of the nets, the next place and the ports
unfoldable pub filled_with : Mem → Layout → List MemoryWritePort → ℕ → List WritePort → List ℕ → Filled → List WideWrite → Filled
filled_with m q ps j ws ns f xs = record { room = sets f.room f.at (concat_map (wide_nets q) xs); at = f.at + total_nets m q ws ns; ports = ports_by m q ps j ws ns f.ports }
