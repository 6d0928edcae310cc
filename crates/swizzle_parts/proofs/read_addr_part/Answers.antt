-- `swizzle_parts::read_addr_part` meets its contract.
use Rattle.std.proofs.Common.{ap, sym, ◌∙◌}
use Rattle.lists.specs.Lists.{part}
use Rattle.rules.specs.Cell.{ReadPort}
use Rattle.swizzle_result.specs.declared.WideMemory.{WideMemory}
use Rattle.swizzle_parts.specs.Parts.{read_port, read_start}
use Rattle.swizzle_parts.proofs.Sized.{read_ports_8}
use Rattle.swizzle_parts.proofs.Found.{no_read}
use Rattle.swizzle_parts.proofs.Cuts.{read_addr_cut}
use Rattle.swizzle_parts.proofs.read_addr_part.Goals as goal

pub returns-in_default : goal.returns-in_default
returns-in_default c =
    let v = c.args in
    λ nets trits image. (λ x. part (c.default.ensures.0 x) (c.default.ensures.1 x) nets) ∙ sym (ap (λ (w : ReadPort). w.addr) (no_read v.g v.n v.i nets trits image c.in_default.ensures))

pub returns : goal.returns
returns c =
    let v = c.args in
    λ nets trits image. (λ x. part (c.read_start.ensures.0 x) (read_port v.g v.i).addr_len nets) ∙ ap (λ (g : WideMemory). part (read_start g v.i) (read_port v.g v.i).addr_len nets) c.in-Some.ensures.1 ∙ read_addr_cut v.g v.n v.i nets trits image c.in-Some.ensures.0 (read_ports_8 v.g _ c.well_formed.0)
