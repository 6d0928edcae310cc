-- `c_plan::tablegoose_swizzle_mux_bits` meets its contract.
use Rattle.std.proofs.Common.{ap, ◌∙◌}
use Rattle.rules.specs.Answers.{swizzle_mux_bits_call}
use Rattle.net_memory.specs.Given.{given_of}
use Rattle.swizzle_plan.specs.Calls.{plan_of}
use Rattle.c_plan.specs.View.{bits_struct, mux_bits_struct}
use Rattle.c_plan.proofs.tablegoose_swizzle_mux_bits.Goals as goal

pub returns : goal.returns
returns c =
    let v = c.args in
    let g = c.given_by-given.ensures in
    c.mux_bits_result.ensures
    ∙ ap bits_struct c.swizzle_mux_bits.ensures
    ∙ (λ i. mux_bits_struct (swizzle_mux_bits_call (given_of (g.0 i) (g.1 i) (g.2 i)) v.ports.now (plan_of v.s v.entries.now v.writes.now v.reads.now)))
