-- `c_swizzle::parts::tablegoose_swizzled_clear` meets its contract.
use mathlib.Core.Path.{ap, ◌∙◌}
use Rattle.swizzle_result.specs.declared.WideMemory.{WideMemory}
use Rattle.swizzle_parts.specs.Parts.{memory_at, clear_at}
use Rattle.c_swizzle.proofs.parts.tablegoose_swizzled_clear.Goals as goal

pub returns : goal.returns
returns c =
    let v = c.args in
    λ nets trits image. c.clear_part.ensures nets trits image ∙ ap (λ (w : WideMemory). clear_at (memory_at w nets trits image v.n).memory v.i) c.into.ensures
