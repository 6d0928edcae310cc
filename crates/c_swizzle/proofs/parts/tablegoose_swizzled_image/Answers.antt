-- `c_swizzle::parts::tablegoose_swizzled_image` meets its contract.
use mathlib.Core.Path.{ap, ◌∙◌}
use Rattle.swizzle_result.specs.declared.WideMemory.{WideMemory}
use Rattle.swizzle_parts.specs.Parts.{memory_at}
use Rattle.c_swizzle.proofs.parts.tablegoose_swizzled_image.Goals as goal

pub returns : goal.returns
returns c =
    let v = c.args in
    λ nets trits image. c.image_part.ensures nets trits image ∙ ap (λ (w : WideMemory). (memory_at w nets trits image v.n).memory.init) c.into.ensures
