-- `c_memory::MemoryFromNet_memoryMemory::from` meets its contract.
use Rattle.std.proofs.Common.{◌≡◌, ap, ◌∙◌}
use borrow.Author.Rules.{rules}
use Rattle.net_memory.specs.View.{no_write_port, no_read_port}
use Rattle.c_memory.specs.declared.Memory.{Memory}
use Rattle.c_memory.specs.View.{write_struct, read_struct, given_memory, memory_struct}
use Rattle.c_memory.proofs.Back.{memory_back}
use Rattle.c_memory.proofs.Each.{by_place}
use Rattle.c_memory.proofs.MemoryFromNet_memoryMemory.from.Goals as goal

pub returns : goal.returns
unfolding memory_struct
returns c =
    let m = c.args.m in
    let w = by_place write_struct no_write_port m.write_ports c.map.result 8 (search rules) c.map.ensures.items.long (λ i h. let z = (c.map.ensures.items.at i no_write_port (write_struct no_write_port) h).2 in search rules) in
    let r = by_place read_struct no_read_port m.read_ports c.map-2.result 8 (search rules) c.map-2.ensures.items.long (λ i h. let z = (c.map-2.ensures.items.at i no_read_port (read_struct no_read_port) h).2 in search rules) in
    let s : ◌≡◌ {A = Memory} _ (memory_struct m) = λ i. record { depth = m.depth; width = m.width; init_len = m.init_len; write_count = m.write_count; read_count = m.read_count; write_ports = w i; read_ports = r i } in
    (s, ap given_memory s ∙ memory_back m)
