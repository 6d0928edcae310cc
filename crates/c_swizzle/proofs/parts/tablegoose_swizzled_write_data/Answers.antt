-- `c_swizzle::parts::tablegoose_swizzled_write_data` meets its contract.
use mathlib.Core.Path.{ap, ◌∙◌}
use Rattle.rules.specs.Cell.{write_at}
use Rattle.swizzle_result.specs.declared.WideMemory.{WideMemory}
use Rattle.swizzle_parts.specs.Parts.{memory_at}
use Rattle.c_swizzle.proofs.parts.tablegoose_swizzled_write_data.Goals as goal

pub returns : goal.returns
returns c =
    let v = c.args in
    λ nets trits image. c.write_data_part.ensures nets trits image ∙ ap (λ (w : WideMemory). (write_at (memory_at w nets trits image v.n).memory v.j).bits) c.into.ensures
