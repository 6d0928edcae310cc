-- The library's struct of the memories that a caller's struct is, and the caller's struct of a library's.
use Rattle.std.specs.Prelude.{map}
use Rattle.swizzle_result.specs.declared.WideWritePort.{WideWritePort as MachineWrite}
use Rattle.swizzle_result.specs.declared.WideReadPort.{WideReadPort as MachineRead}
use Rattle.swizzle_result.specs.declared.WideMemory.{WideMemory as MachineWide}
use Rattle.c_memory.specs.declared.FlipFlop.{FlipFlop}
use Rattle.c_memory.specs.View.{given_net, given_flip_flop, net_struct, flip_flop_struct}
use Rattle.c_swizzle.specs.declared.WideWritePort.{WideWritePort}
use Rattle.c_swizzle.specs.declared.WideReadPort.{WideReadPort}
use Rattle.c_swizzle.specs.declared.WideMemory.{WideMemory}

-- ---- from a caller's struct
abbrev pub given_write : WideWritePort → MachineWrite
given_write p = record { addr_len = p.addr_len; wide = p.wide; clock = given_net p.clock }

abbrev pub fields_of : WideReadPort → FlipFlop
fields_of p = record { clocked = p.clocked; clock = p.clock; clear = p.clear; reset = p.reset; enable = p.enable; reset_over_enable = p.reset_over_enable }

-- flags are read as those of a memory's read port
abbrev pub given_read : WideReadPort → MachineRead
given_read p = record {
  addr_len = p.addr_len;
  wide = p.wide;
  first = p.first;
  relations_len = p.relations_len;
  relations = p.relations;
  flip_flop = given_flip_flop (fields_of p);
}

unfoldable pub given_wide : WideMemory → MachineWide
given_wide g = record {
  full = g.full;
  mems = g.mems;
  full_depth = g.full_depth;
  part_depth = g.part_depth;
  unit = g.unit;
  write_count = g.write_count;
  read_count = g.read_count;
  write_ports = map given_write g.write_ports;
  read_ports = map given_read g.read_ports;
}

-- ---- to a caller's struct
abbrev pub write_struct : MachineWrite → WideWritePort
write_struct p = record { addr_len = p.addr_len; wide = p.wide; clock = net_struct p.clock }

-- a read port with the fields of a flip-flop
abbrev pub read_with : MachineRead → FlipFlop → WideReadPort
read_with p f = record {
  addr_len = p.addr_len;
  wide = p.wide;
  first = p.first;
  relations_len = p.relations_len;
  relations = p.relations;
  clocked = f.clocked;
  clock = f.clock;
  clear = f.clear;
  reset = f.reset;
  enable = f.enable;
  reset_over_enable = f.reset_over_enable;
}

abbrev pub read_struct : MachineRead → WideReadPort
read_struct p = read_with p (flip_flop_struct p.flip_flop)

unfoldable pub wide_struct : MachineWide → WideMemory
wide_struct g = record {
  full = g.full;
  mems = g.mems;
  full_depth = g.full_depth;
  part_depth = g.part_depth;
  unit = g.unit;
  write_count = g.write_count;
  read_count = g.read_count;
  write_ports = map write_struct g.write_ports;
  read_ports = map read_struct g.read_ports;
}
