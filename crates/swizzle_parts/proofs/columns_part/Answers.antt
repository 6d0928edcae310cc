-- `swizzle_parts::columns_part` meets its contract.
use Rattle.std.proofs.Common.{◌+◌, ◌*◌, ap, sym, ◌∙◌}
use Rattle.lists.specs.Lists.{part}
use Rattle.swizzle_result.specs.declared.WideMemory.{WideMemory}
use Rattle.swizzle_result.specs.View.{own, whole}
use Rattle.swizzle_parts.specs.Parts.{write_port, write_start, bits_before}
use Rattle.swizzle_parts.proofs.Sized.{write_ports_8}
use Rattle.swizzle_parts.proofs.Found.{no_bits}
use Rattle.swizzle_parts.proofs.Cuts.{bits_cut}
use Rattle.swizzle_parts.proofs.columns_part.Goals as goal

pub returns-in_default : goal.returns-in_default
returns-in_default c =
    let v = c.args in
    λ nets trits image. (λ x. part (c.default.ensures.0 x) (c.default.ensures.1 x) nets) ∙ sym (no_bits v.bits v.g v.n v.j nets trits image c.in_default.ensures)

pub returns : goal.returns
returns c =
    let v = c.args in
    let p = write_port v.g v.j in
    λ nets trits image.
    (λ x. part (c.write_start.ensures.0 x + (p.addr_len + c.before-before.ensures.0 x * c.whole.ensures.0 x + v.n * c.own-size.ensures.0 x)) (c.own-size.ensures.0 x) nets)
    ∙ ap (λ (g : WideMemory). part (write_start g v.j + (p.addr_len + bits_before v.bits * whole g p.wide + v.n * own g p.wide)) (own g p.wide) nets) c.in-Some.ensures.1
    ∙ bits_cut v.g v.n v.j nets trits image v.bits c.in-Some.ensures.0 (write_ports_8 v.g _ c.well_formed.0)
