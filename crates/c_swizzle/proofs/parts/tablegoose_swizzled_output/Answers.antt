-- `c_swizzle::parts::tablegoose_swizzled_output` meets its contract.
use mathlib.Core.Path.{ap, ◌∙◌}
use lib.ListN.{get_or}
use Rattle.rules.specs.Cell.{output_slice}
use Rattle.swizzle_result.specs.declared.WideMemory.{WideMemory}
use Rattle.swizzle_parts.specs.Parts.{memory_at}
use Rattle.c_swizzle.proofs.parts.tablegoose_swizzled_output.Goals as goal

pub returns : goal.returns
returns c =
    let v = c.args in
    λ nets trits image. c.output_of.ensures nets trits image ∙ ap (λ (w : WideMemory). get_or (output_slice (memory_at w nets trits image v.n).memory v.i (memory_at w nets trits image v.n).output) v.bit 0) c.into.ensures
