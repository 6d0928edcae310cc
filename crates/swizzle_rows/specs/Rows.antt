-- What the rows of a swizzle leave: the write ports first, then the read ports from where those end.
use Rattle.std.specs.Prelude.{◌≡◌, ℕ, min, true, false, List, take, replicate}
use Rattle.rules.specs.Limits.{max_ports}
use Rattle.rules.specs.Value.{Value}
use Rattle.rules.specs.Geometry.{Layout, full_mems, all_mems, full_depth_of, part_depth_of}
use Rattle.log_entries.specs.Emission.{Lent}
use Rattle.std.specs.Prelude.{None}
use Rattle.net_memory.specs.declared.Memory.{Memory}
use Rattle.net_memory.specs.View.{memory_of}
use Rattle.image_geometry.specs.declared.Shape.{Shape}
use Rattle.port_transparency.specs.Gave.{Gave}
use Rattle.swizzle_result.specs.declared.WideWritePort.{WideWritePort}
use Rattle.swizzle_result.specs.declared.WideReadPort.{WideReadPort}
use Rattle.swizzle_result.specs.declared.WideMemory.{WideMemory}
use Rattle.swizzle_writes.specs.Placed.{Filled, no_port, none_filled, placed_from}
use Rattle.swizzle_reads.specs.Going.{Going, in_ports, has_rows, reads_if}

-- no read port yet
abbrev pub no_read_of : WideReadPort
no_read_of = record { addr_len = 0; wide = 0; first = 0; relations_len = 0; relations = replicate max_ports 0; flip_flop = None }

-- the memories with their write ports
abbrev pub start_memory : ℕ → ℕ → ℕ → ℕ → ℕ → ℕ → ℕ → List WideWritePort → WideMemory
start_memory full mems deep part unit writes reads ports = record {
  full = full;
  mems = mems;
  full_depth = deep;
  part_depth = part;
  unit = unit;
  write_count = writes;
  read_count = reads;
  write_ports = ports;
  read_ports = replicate max_ports no_read_of;
}

-- no memories
abbrev pub no_memories : WideMemory
no_memories = start_memory 0 0 0 0 0 0 0 (replicate max_ports no_port)

-- the machine's sizes are those of the layout
pub record Measured (q : Layout) (s : Shape) : Type 0 where
  pub full_are : s.full_mems ≡ full_mems q
  pub all_are : s.all_mems ≡ all_mems q
  pub deep_is : s.full_depth ≡ full_depth_of q
  pub part_is : s.part_depth ≡ part_depth_of q

-- where the read ports start, in rooms that the write ports found like this and left like that
abbrev pub start_going : Layout → Memory → Going → Lent → Filled → Going
start_going q m g l f = record {
  lent = l;
  nets = f.room;
  nets_name = g.nets_name;
  trits = g.trits;
  trits_name = g.trits_name;
  nets_at_of = f.at;
  trits_at_of = 0;
  memory = start_memory (full_mems q) (all_mems q) (full_depth_of q) (part_depth_of q) q.unit m.write_count m.read_count f.ports;
}

-- write ports, then read ports
pub record RowsBy (q : Layout) (m : Memory) (nets trits ws rs : List ℕ) (output : Value) (scratch : ℕ) (before after : Going) : Type 0 where
  pub mid : Lent
  pub filled : Filled
  pub gave : Gave (placed_from (memory_of m nets trits) q (all_mems q) m.write_ports 0 (take (min max_ports m.write_count) ws) (none_filled before.nets)) before.lent mid filled
  pub reads_are : after ≡ reads_if q scratch (in_ports m nets trits) rs output (start_going q m before mid filled)

-- of a layout that an accepted swizzle has; else nothing
pub record RowsRan (q : Layout) (m : Memory) (nets trits ws rs : List ℕ) (output : Value) (scratch : ℕ) (before after : Going) : Type 0 where
  pub by_rows : has_rows q ≡ true → RowsBy q m nets trits ws rs output scratch before after
  pub else_none : has_rows q ≡ false → after ≡ before
