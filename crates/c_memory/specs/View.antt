-- The library's memory that a caller's struct is, and the caller's struct of a library's memory.
use Rattle.std.specs.Prelude.{map, replicate, eqb}
use Rattle.lists.specs.Choice.{when◌then◌else◌}
use Rattle.rules.specs.Limits.{max_ports}
use Rattle.rules.specs.Value as rules
use Rattle.net_value.specs.declared.ControlNet.{ControlNet}
use Rattle.net_value.specs.declared.ControlNet.TheVariants.{Pos, Neg}
use Rattle.net_value.specs.View.{control_of}
use Rattle.net_flip_flop.specs.declared.Controls.{Controls}
use Rattle.net_memory.specs.declared.MemoryWritePort.{MemoryWritePort}
use Rattle.net_memory.specs.FlipFlop.{MemoryReadFlipFlop}
use Rattle.std.specs.Prelude.{None, Some}
use Rattle.net_memory.specs.declared.MemoryReadPort.{MemoryReadPort}
use Rattle.net_memory.specs.declared.Memory.{Memory as MachineMemory}
use Rattle.c_net.specs.declared.Control.{Control}
use Rattle.c_net.specs.View.{flag_code, given_control, flagged_control, control_struct}
use Rattle.c_memory.specs.declared.WritePort.{WritePort}
use Rattle.c_memory.specs.declared.FlipFlop.{FlipFlop}
use Rattle.c_memory.specs.declared.ReadPort.{ReadPort}
use Rattle.c_memory.specs.declared.Memory.{Memory}

-- ---- from a caller's struct
-- the library's control of a control
abbrev pub net_of : rules.Control → ControlNet
net_of (rules.Pos n) = Pos (record { 0 = n })
net_of (rules.Neg n) = Neg (record { 0 = n })

abbrev pub given_net : Control → ControlNet
given_net c = net_of (given_control c)

-- what is no control: calls refuse it by 4
abbrev pub no_control : ControlNet
no_control = Neg (record { 0 = 0 })

abbrev pub given_write : WritePort → MemoryWritePort
given_write p = record { addr_len = p.addr_len; data_len = p.data_len; mask_len = p.mask_len; clock = given_net p.clock }

-- the clock of a clocked port: no control where the flag `clocked` is above 1
unfoldable pub given_clock : FlipFlop → ControlNet
given_clock p = when eqb p.clocked 1 then given_net p.clock else no_control

-- its reset: no control where the flag `reset_over_enable` is above 1
unfoldable pub given_reset : FlipFlop → ControlNet
given_reset p = net_of (flagged_control p.reset p.reset_over_enable)

abbrev pub given_controls : FlipFlop → Controls
given_controls p = record {
  clock = given_clock p;
  clear = given_net p.clear;
  reset = given_reset p;
  enable = given_net p.enable;
  reset_over_enable = eqb p.reset_over_enable 1;
}

unfoldable pub given_flip_flop : FlipFlop → MemoryReadFlipFlop
given_flip_flop p = when eqb p.clocked 0 then None else Some (given_controls p)

abbrev pub fields_of : ReadPort → FlipFlop
fields_of p = record { clocked = p.clocked; clock = p.clock; clear = p.clear; reset = p.reset; enable = p.enable; reset_over_enable = p.reset_over_enable }

abbrev pub given_read : ReadPort → MemoryReadPort
given_read p = record {
  addr_len = p.addr_len;
  data_len = p.data_len;
  clear_len = p.clear_len;
  reset_len = p.reset_len;
  init_len = p.init_len;
  relations_len = p.relations_len;
  relations = p.relations;
  flip_flop = given_flip_flop (fields_of p);
}

unfoldable pub given_memory : Memory → MachineMemory
given_memory m = record {
  depth = m.depth;
  width = m.width;
  init_len = m.init_len;
  write_count = m.write_count;
  read_count = m.read_count;
  write_ports = map given_write m.write_ports;
  read_ports = map given_read m.read_ports;
}

-- ---- to a caller's struct
abbrev pub net_struct : ControlNet → Control
net_struct c = control_struct (control_of c)

abbrev pub write_struct : MemoryWritePort → WritePort
write_struct p = record { addr_len = p.addr_len; data_len = p.data_len; mask_len = p.mask_len; clock = net_struct p.clock }

-- where there is no control
abbrev pub zero_control : Control
zero_control = record { polarity = 0; net = 0 }

abbrev pub no_flip_flop : FlipFlop
no_flip_flop = record { clocked = 0; clock = zero_control; clear = zero_control; reset = zero_control; enable = zero_control; reset_over_enable = 0 }

abbrev pub clocked_struct : Controls → FlipFlop
clocked_struct f = record {
  clocked = 1;
  clock = net_struct f.clock;
  clear = net_struct f.clear;
  reset = net_struct f.reset;
  enable = net_struct f.enable;
  reset_over_enable = flag_code f.reset_over_enable;
}

abbrev pub flip_flop_struct : MemoryReadFlipFlop → FlipFlop
flip_flop_struct None = no_flip_flop
flip_flop_struct (Some f) = clocked_struct f

-- a read port with the fields of a flip-flop
abbrev pub read_with : MemoryReadPort → FlipFlop → ReadPort
read_with p f = record {
  addr_len = p.addr_len;
  data_len = p.data_len;
  clear_len = p.clear_len;
  reset_len = p.reset_len;
  init_len = p.init_len;
  relations_len = p.relations_len;
  relations = p.relations;
  clocked = f.clocked;
  clock = f.clock;
  clear = f.clear;
  reset = f.reset;
  enable = f.enable;
  reset_over_enable = f.reset_over_enable;
}

abbrev pub read_struct : MemoryReadPort → ReadPort
read_struct p = read_with p (flip_flop_struct p.flip_flop)

unfoldable pub memory_struct : MachineMemory → Memory
memory_struct m = record {
  depth = m.depth;
  width = m.width;
  init_len = m.init_len;
  write_count = m.write_count;
  read_count = m.read_count;
  write_ports = map write_struct m.write_ports;
  read_ports = map read_struct m.read_ports;
}

-- ---- all 0
abbrev pub zero_write : WritePort
zero_write = record { addr_len = 0; data_len = 0; mask_len = 0; clock = zero_control }

abbrev pub zero_read : ReadPort
zero_read = record {
  addr_len = 0;
  data_len = 0;
  clear_len = 0;
  reset_len = 0;
  init_len = 0;
  relations_len = 0;
  relations = replicate max_ports 0;
  clocked = 0;
  clock = zero_control;
  clear = zero_control;
  reset = zero_control;
  enable = zero_control;
  reset_over_enable = 0;
}

unfoldable pub zero_memory : Memory
zero_memory = record {
  depth = 0;
  width = 0;
  init_len = 0;
  write_count = 0;
  read_count = 0;
  write_ports = replicate max_ports zero_write;
  read_ports = replicate max_ports zero_read;
}
