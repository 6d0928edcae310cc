-- Memories and ports from their sizes.
use Rattle.std.specs.Prelude.{ℕ, true, List, [], ◌∷◌, replicate, set}
use Rattle.net_value.specs.declared.ControlNet.{ControlNet}
use Rattle.net_value.specs.declared.ControlNet.TheVariants.{Pos, Neg}
use Rattle.net_memory.specs.declared.MemoryWritePort.{MemoryWritePort}
use Rattle.net_memory.specs.FlipFlop.{MemoryReadFlipFlop}
use Rattle.std.specs.Prelude.{None, Some}
use Rattle.net_memory.specs.declared.MemoryReadPort.{MemoryReadPort}
use Rattle.net_memory.specs.declared.Memory.{Memory}

abbrev pub write_of : ℕ → ℕ → ℕ → ControlNet → MemoryWritePort
write_of addr bits mask clock = record { addr_len = addr; data_len = bits; mask_len = mask; clock = clock }

abbrev pub some_of_of : ControlNet → ControlNet → ControlNet → ControlNet → MemoryReadFlipFlop
some_of_of clock clear reset enable = Some (record { clock = clock; clear = clear; reset = reset; enable = enable; reset_over_enable = true })

abbrev pub read_of : ℕ → ℕ → ℕ → ℕ → ℕ → ℕ → List ℕ → MemoryReadFlipFlop → MemoryReadPort
read_of addr bits clear reset init count relations f = record {
  addr_len = addr;
  data_len = bits;
  clear_len = clear;
  reset_len = reset;
  init_len = init;
  relations_len = count;
  relations = relations;
  flip_flop = f;
}

abbrev pub memory_with : ℕ → ℕ → ℕ → ℕ → ℕ → List MemoryWritePort → List MemoryReadPort → Memory
memory_with depth width init writes reads ws rs = record {
  depth = depth;
  width = width;
  init_len = init;
  write_count = writes;
  read_count = reads;
  write_ports = ws;
  read_ports = rs;
}

-- with other ports
abbrev pub with_writes : Memory → List MemoryWritePort → Memory
with_writes m ws = memory_with m.depth m.width m.init_len m.write_count m.read_count ws m.read_ports

abbrev pub with_reads : Memory → List MemoryReadPort → Memory
with_reads m rs = memory_with m.depth m.width m.init_len m.write_count m.read_count m.write_ports rs

-- ports and memories that most cases start from
abbrev pub write_clocked : ℕ → ℕ → MemoryWritePort
write_clocked addr bits = write_of addr bits bits (Pos (record { 0 = 9 }))

abbrev pub read_plain : ℕ → ℕ → MemoryReadPort
read_plain addr bits = read_of addr bits 0 0 0 0 (replicate 8 0) None

abbrev pub usual_of : MemoryReadFlipFlop
usual_of = some_of_of (Pos (record { 0 = 9 })) (Pos (record { 0 = 0 })) (Neg (record { 0 = 7 })) (Pos (record { 0 = 1 }))

abbrev pub read_clocked : ℕ → ℕ → ℕ → MemoryReadPort
read_clocked addr bits count = read_of addr bits bits bits bits count (2 ∷ 0 ∷ 1 ∷ 2 ∷ 0 ∷ 1 ∷ 2 ∷ 0 ∷ []) usual_of

abbrev pub plain_of : ℕ → ℕ → ℕ → Memory
plain_of depth width init = memory_with depth width init 0 0 (replicate 8 (write_clocked 0 0)) (replicate 8 (read_plain 0 0))

-- two write ports and three read ports, the second without a flip-flop
abbrev pub base_of : Memory
base_of =
    memory_with 8 2 16 2 3 (set (replicate 8 (write_clocked 2 4)) 1 (write_clocked 3 2))
    (set (set (replicate 8 (read_clocked 3 2 2)) 0 (read_clocked 1 8 2)) 1 (read_of 3 2 1 0 2 1 (replicate 8 3) None))
