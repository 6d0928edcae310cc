-- `c_plan::tablegoose_make_data_swizzle` meets its contract.
use Rattle.std.proofs.Common.{ap, ◌∙◌}
use Rattle.rules.specs.Answers.{Listed, make_data_swizzle_call}
use Rattle.net_memory.specs.Given.{given_of}
use Rattle.c_net.specs.View.{count_struct}
use Rattle.c_plan.proofs.tablegoose_make_data_swizzle.Goals as goal

pub returns : goal.returns
returns c =
    let v = c.args in
    let g = c.given_by-given.ensures in
    let q = c.make_data_swizzle.ensures ∙ (λ i. make_data_swizzle_call v.out.now (given_of (g.0 i) (g.1 i) (g.2 i)) v.granularities.now) in
    record { value = c.count_result.ensures ∙ ap count_struct (ap (λ (l : Listed). l.answer) q); out_after = ap (λ (l : Listed). l.out) q }
