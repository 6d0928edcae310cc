-- `swizzle_parts::write_addr_part` meets its contract.
use Rattle.std.proofs.Common.{ap, sym, ◌∙◌}
use Rattle.lists.specs.Lists.{part}
use Rattle.rules.specs.Cell.{WritePort}
use Rattle.swizzle_result.specs.declared.WideMemory.{WideMemory}
use Rattle.swizzle_parts.specs.Parts.{write_port, write_start}
use Rattle.swizzle_parts.proofs.Sized.{write_ports_8}
use Rattle.swizzle_parts.proofs.Found.{no_write}
use Rattle.swizzle_parts.proofs.Cuts.{addr_cut}
use Rattle.swizzle_parts.proofs.write_addr_part.Goals as goal

pub returns-in_default : goal.returns-in_default
returns-in_default c =
    let v = c.args in
    λ nets trits image. (λ x. part (c.default.ensures.0 x) (c.default.ensures.1 x) nets) ∙ sym (ap (λ (w : WritePort). w.addr) (no_write v.g v.n v.j nets trits image c.in_default.ensures))

pub returns : goal.returns
returns c =
    let v = c.args in
    λ nets trits image. (λ x. part (c.write_start.ensures.0 x) (write_port v.g v.j).addr_len nets) ∙ ap (λ (g : WideMemory). part (write_start g v.j) (write_port v.g v.j).addr_len nets) c.in-Some.ensures.1 ∙ addr_cut v.g v.n v.j nets trits image c.in-Some.ensures.0 (write_ports_8 v.g _ c.well_formed.0)
