-- `c_plan::tablegoose_swizzle_depths` meets its contract.
use Rattle.std.proofs.Common.{ℕ, ap, ◌∙◌}
use Rattle.rules.specs.Answers.{filled_with, swizzle_depths_call}
use Rattle.net_memory.specs.Given.{given_of}
use Rattle.swizzle_plan.specs.Calls.{plan_of}
use Rattle.c_plan.proofs.tablegoose_swizzle_depths.Goals as goal

pub returns : goal.returns
returns c =
    let v = c.args in
    let g = c.given_by-given.ensures in
    ap (λ (n : ℕ). filled_with n c.swizzle_depths.new.out) c.number_of.ensures
    ∙ c.swizzle_depths.ensures
    ∙ (λ i. swizzle_depths_call v.out.now (given_of (g.0 i) (g.1 i) (g.2 i)) (plan_of v.s v.entries.now v.writes.now v.reads.now))
