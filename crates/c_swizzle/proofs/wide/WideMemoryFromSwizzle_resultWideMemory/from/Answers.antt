-- `c_swizzle::wide::WideMemoryFromSwizzle_resultWideMemory::from` meets its contract.
use Rattle.std.proofs.Common.{◌≡◌, ap, ◌∙◌}
use borrow.Author.Rules.{rules}
use Rattle.swizzle_writes.specs.Placed.{no_port}
use Rattle.swizzle_rows.specs.Rows.{no_read_of}
use Rattle.c_swizzle.specs.declared.WideMemory.{WideMemory}
use Rattle.c_swizzle.specs.View.{write_struct, read_struct, given_wide, wide_struct}
use Rattle.c_swizzle.proofs.Back.{wide_back}
use Rattle.c_memory.proofs.Each.{by_place}
use Rattle.c_swizzle.proofs.wide.WideMemoryFromSwizzle_resultWideMemory.from.Goals as goal

pub returns : goal.returns
unfolding wide_struct
returns c =
    let g = c.args.g in
    let w = by_place write_struct no_port g.write_ports c.map.result 8 (search rules) c.map.ensures.items.long (λ i h. let z = (c.map.ensures.items.at i no_port (write_struct no_port) h).2 in search rules) in
    let r = by_place read_struct no_read_of g.read_ports c.map-2.result 8 (search rules) c.map-2.ensures.items.long (λ i h. let z = (c.map-2.ensures.items.at i no_read_of (read_struct no_read_of) h).2 in search rules) in
    let s : ◌≡◌ {A = WideMemory} _ (wide_struct g) = λ i. record { full = g.full; mems = g.mems; full_depth = g.full_depth; part_depth = g.part_depth; unit = g.unit; write_count = g.write_count; read_count = g.read_count; write_ports = w i; read_ports = r i } in
    (s, ap given_wide s ∙ wide_back g)
