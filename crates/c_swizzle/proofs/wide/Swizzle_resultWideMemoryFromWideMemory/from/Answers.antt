-- `c_swizzle::wide::Swizzle_resultWideMemoryFromWideMemory::from` meets its contract.
use borrow.Author.Rules.{rules}
use Rattle.swizzle_writes.specs.Placed.{no_port}
use Rattle.swizzle_rows.specs.Rows.{no_read_of}
use Rattle.c_swizzle.specs.View.{given_write, given_read, given_wide, write_struct, read_struct}
use Rattle.c_memory.proofs.Each.{by_place}
use Rattle.c_swizzle.proofs.wide.Swizzle_resultWideMemoryFromWideMemory.from.Goals as goal

pub returns : goal.returns
unfolding given_wide
returns c =
    let g = c.args.g in
    let a = write_struct no_port in
    let b = read_struct no_read_of in
    let w = by_place given_write a g.write_ports c.map.result 8 (search rules) c.map.ensures.items.long (λ i h. let z = (c.map.ensures.items.at i a (given_write a) h).2 in search rules) in
    let r = by_place given_read b g.read_ports c.map-2.result 8 (search rules) c.map-2.ensures.items.long (λ i h. let z = (c.map-2.ensures.items.at i b (given_read b) h).2 in search rules) in
    λ i. record { full = g.full; mems = g.mems; full_depth = g.full_depth; part_depth = g.part_depth; unit = g.unit; write_count = g.write_count; read_count = g.read_count; write_ports = w i; read_ports = r i }
