-- `c_swizzle::parts::tablegoose_swizzled_read_addr` meets its contract.
use mathlib.Core.Path.{ap, ◌∙◌}
use Rattle.rules.specs.Cell.{read_at_of}
use Rattle.swizzle_result.specs.declared.WideMemory.{WideMemory}
use Rattle.swizzle_parts.specs.Parts.{memory_at}
use Rattle.c_swizzle.proofs.parts.tablegoose_swizzled_read_addr.Goals as goal

pub returns : goal.returns
returns c =
    let v = c.args in
    λ nets trits image. c.read_addr_part.ensures nets trits image ∙ ap (λ (w : WideMemory). (read_at_of (memory_at w nets trits image v.n).memory v.i).addr) c.into.ensures
