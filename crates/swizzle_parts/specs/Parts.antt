-- Memory n of those that a struct and three lent arrays hold, where the struct's numbers are within the limits of a swizzle.
use Rattle.std.specs.Prelude.{ℕ, ◌+◌, ◌<◌, ◌≤◌, min, Bool, ◌&&◌, List, [], take, get_or, leb, ltb}
use Rattle.lists.specs.Choice.{when◌then◌else◌}
use Rattle.lists.specs.Lists.{sum_by, part, all, concat_map}
use Rattle.rules.specs.Limits.{max_ports, max_wide, max_unit, max_columns, max_nets}
use Rattle.rules.specs.Cell.{Mem, WritePort, ReadFlipFlop, read_at_of, held}
use Rattle.rules.specs.Ports.{Driving}
use Rattle.net_value.specs.declared.ControlNet.TheVariants.{Pos}
use Rattle.std.specs.Prelude.{None}
use Rattle.swizzle_result.specs.declared.WideWritePort.{WideWritePort}
use Rattle.swizzle_result.specs.declared.WideReadPort.{WideReadPort}
use Rattle.swizzle_result.specs.declared.WideMemory.{WideMemory}
use Rattle.swizzle_parts.specs.declared.Bits.{Bits}
use Rattle.swizzle_parts.specs.declared.Bits.TheVariants.{Data, Mask}
use Rattle.swizzle_parts.specs.declared.Kind.{Kind}
use Rattle.swizzle_parts.specs.declared.Kind.TheVariants.{Clear, Reset, Init}
use Rattle.swizzle_result.specs.View.{write_ports_of, read_ports_of, write_size, addr_size, trit_size, reads_start, results_of}

-- what stands past the last port, and past the last memory
abbrev pub no_write_of : WideWritePort
no_write_of = record { addr_len = 0; wide = 0; clock = Pos (record { 0 = 0 }) }

abbrev pub no_read_of : WideReadPort
no_read_of = record { addr_len = 0; wide = 0; first = 0; relations_len = 0; relations = []; flip_flop = None }

abbrev pub no_memory : Driving
no_memory = record { memory = record { depth = 0; width = 0; init = []; writes = []; reads = [] }; output = [] }

abbrev pub write_port : WideMemory → ℕ → WideWritePort
write_port g j = get_or g.write_ports j no_write_of

abbrev pub read_port : WideMemory → ℕ → WideReadPort
read_port g i = get_or g.read_ports i no_read_of

-- the numbers of a port are small
abbrev pub small_write : WideWritePort → Bool
small_write p = leb p.wide max_wide

abbrev pub small_read : WideReadPort → Bool
small_read p = leb p.wide max_wide && leb p.first max_nets

-- those of the struct are
unfoldable pub is_small : WideMemory → Bool
is_small g = leb g.mems max_columns && (leb g.unit max_unit && (all small_write (write_ports_of g) && all small_read (read_ports_of g)))

pub record Small (g : WideMemory) : Type 0 where
  pub mems_small : g.mems ≤ max_columns
  pub unit_small : g.unit ≤ max_unit
  pub writes_small : (j : ℕ) → j < min max_ports g.write_count → (write_port g j).wide ≤ max_wide
  pub reads_small : (i : ℕ) → i < min max_ports g.read_count → ((read_port g i).wide ≤ max_wide) × ((read_port g i).first ≤ max_nets)

-- there is a memory n
unfoldable pub is_there : WideMemory → ℕ → Bool
is_there g n = is_small g && ltb n g.mems

pub record There (g : WideMemory) (n : ℕ) : Type 0 where
  pub small : Small g
  pub below : n < g.mems

-- a memory n, and a port of this number, of so many
unfoldable pub has_port : WideMemory → ℕ → ℕ → ℕ → Bool
has_port g n i count = is_there g n && ltb i (min max_ports count)

abbrev pub has_write : WideMemory → ℕ → ℕ → Bool
has_write g n j = has_port g n j g.write_count

abbrev pub has_read : WideMemory → ℕ → ℕ → Bool
has_read g n i = has_port g n i g.read_count

-- it, with the outputs that it drives
unfoldable pub memory_at : WideMemory → List ℕ → List ℕ → List ℕ → ℕ → Driving
memory_at g nets trits image n = when is_small g then get_or (results_of g nets trits image) n no_memory else no_memory

-- the trits of read port i's flip-flop; none where it has none
unfoldable pub clear_at : Mem → ℕ → List ℕ
clear_at m i = concat_map (λ (f : ReadFlipFlop). f.clear_value) (held (read_at_of m i).flip_flop)

unfoldable pub reset_at : Mem → ℕ → List ℕ
reset_at m i = concat_map (λ (f : ReadFlipFlop). f.reset_value) (held (read_at_of m i).flip_flop)

unfoldable pub init_at : Mem → ℕ → List ℕ
init_at m i = concat_map (λ (f : ReadFlipFlop). f.init_value) (held (read_at_of m i).flip_flop)

-- the parts of a port, and how many times the columns of all memories come before one
abbrev pub bits_before : Bits → ℕ
bits_before Data = 0
bits_before Mask = 1

abbrev pub bits_at : Bits → WritePort → List ℕ
bits_at Data p = p.bits
bits_at Mask p = p.mask

abbrev pub kind_before : Kind → ℕ
kind_before Clear = 0
kind_before Reset = 1
kind_before Init = 2

abbrev pub kind_at : Kind → Mem → ℕ → List ℕ
kind_at Clear m i = clear_at m i
kind_at Reset m i = reset_at m i
kind_at Init m i = init_at m i

-- where a port's nets and trits start
abbrev pub write_start : WideMemory → ℕ → ℕ
write_start g j = sum_by (write_size g) (take j g.write_ports)

abbrev pub read_start : WideMemory → ℕ → ℕ
read_start g i = reads_start g + sum_by addr_size (take i g.read_ports)

abbrev pub trit_start : WideMemory → ℕ → ℕ
trit_start g i = sum_by (trit_size g) (take i g.read_ports)

-- the nets and the trits of a port, of all memories
abbrev pub write_nets : WideMemory → List ℕ → ℕ → List ℕ
write_nets g nets j = part (write_start g j) (write_size g (write_port g j)) nets

abbrev pub read_nets : WideMemory → List ℕ → ℕ → List ℕ
read_nets g nets i = part (read_start g i) (addr_size (read_port g i)) nets

abbrev pub read_trits : WideMemory → List ℕ → ℕ → List ℕ
read_trits g trits i = part (trit_start g i) (trit_size g (read_port g i)) trits
