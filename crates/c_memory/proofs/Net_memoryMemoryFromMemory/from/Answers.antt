-- `c_memory::Net_memoryMemoryFromMemory::from` meets its contract.
use borrow.Author.Rules.{rules}
use Rattle.c_memory.specs.View.{zero_write, zero_read, given_write, given_read, given_memory}
use Rattle.c_memory.proofs.Each.{by_place}
use Rattle.c_memory.proofs.Net_memoryMemoryFromMemory.from.Goals as goal

pub returns : goal.returns
unfolding given_memory
returns c =
    let m = c.args.m in
    let w = by_place given_write zero_write m.write_ports c.map.result 8 (search rules) c.map.ensures.items.long (λ i h. let z = (c.map.ensures.items.at i zero_write (given_write zero_write) h).2 in search rules) in
    let r = by_place given_read zero_read m.read_ports c.map-2.result 8 (search rules) c.map-2.ensures.items.long (λ i h. let z = (c.map-2.ensures.items.at i zero_read (given_read zero_read) h).2 in search rules) in
    λ i. record { depth = m.depth; width = m.width; init_len = m.init_len; write_count = m.write_count; read_count = m.read_count; write_ports = w i; read_ports = r i }
