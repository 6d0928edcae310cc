-- A library's memory as a caller's struct is, read again, that memory.
use mathlib.Core.Path.{◌≡◌, refl}
use mathlib.Core.Bool.{Bool, true, false}
use lib.Dec.{eqb}
use Rattle.net_value.specs.declared.ControlNet.{ControlNet}
use Rattle.net_value.specs.declared.ControlNet.TheVariants.{Pos, Neg}
use Rattle.net_value.specs.View.{control_of}
use Rattle.net_memory.specs.declared.MemoryWritePort.{MemoryWritePort}
use Rattle.net_memory.specs.FlipFlop.{MemoryReadFlipFlop}
use Rattle.std.specs.Prelude.{None, Some}
use Rattle.net_memory.specs.declared.MemoryReadPort.{MemoryReadPort}
use Rattle.net_memory.specs.declared.Memory.{Memory as MachineMemory}
use Rattle.c_net.specs.View.{flag_code, given_control, flagged_control}
use Rattle.c_memory.specs.View.{net_of, given_net, given_write, given_clock, given_reset, given_flip_flop, given_read, given_memory, net_struct, write_struct, flip_flop_struct, read_struct, memory_struct}
use Rattle.c_memory.proofs.Each.{undone}

-- a control by its view
pub by_view : (c : ControlNet) → net_of (control_of c) ≡ c
by_view (Pos n) = refl
by_view (Neg n) = refl

pub net_back : (c : ControlNet) → given_net (net_struct c) ≡ c
unfolding given_control
net_back (Pos n) = refl
net_back (Neg n) = refl

flag_back : (b : Bool) → eqb (flag_code b) 1 ≡ b
flag_back true = refl
flag_back false = refl

write_back : (p : MemoryWritePort) → given_write (write_struct p) ≡ p
write_back p = λ i. record { addr_len = p.addr_len; data_len = p.data_len; mask_len = p.mask_len; clock = net_back p.clock i }

-- a flag that is 0 or 1 leaves the reset as it is
reset_back : (b : Bool) (c : ControlNet) → net_of (flagged_control (net_struct c) (flag_code b)) ≡ c
unfolding flagged_control
reset_back true c = net_back c
reset_back false c = net_back c

pub flip_flop_back : (f : MemoryReadFlipFlop) → given_flip_flop (flip_flop_struct f) ≡ f
unfolding given_flip_flop given_clock given_reset
flip_flop_back None = refl
flip_flop_back (Some f) = λ i. Some (record {
  clock = net_back f.clock i;
  clear = net_back f.clear i;
  reset = reset_back f.reset_over_enable f.reset i;
  enable = net_back f.enable i;
  reset_over_enable = flag_back f.reset_over_enable i;
})

read_back : (p : MemoryReadPort) → given_read (read_struct p) ≡ p
read_back p = λ i. record {
  addr_len = p.addr_len;
  data_len = p.data_len;
  clear_len = p.clear_len;
  reset_len = p.reset_len;
  init_len = p.init_len;
  relations_len = p.relations_len;
  relations = p.relations;
  flip_flop = flip_flop_back p.flip_flop i;
}

pub memory_back : (m : MachineMemory) → given_memory (memory_struct m) ≡ m
unfolding given_memory memory_struct
memory_back m = λ i. record {
  depth = m.depth;
  width = m.width;
  init_len = m.init_len;
  write_count = m.write_count;
  read_count = m.read_count;
  write_ports = undone given_write write_struct write_back m.write_ports i;
  read_ports = undone given_read read_struct read_back m.read_ports i;
}
