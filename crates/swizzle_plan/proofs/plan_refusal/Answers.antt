-- `swizzle_plan::plan_refusal` meets its contract.
use Rattle.std.proofs.Common.{Bool, ap, sym, ◌∙◌}
use Rattle.rules.specs.Refusals.{driving_number}
use Rattle.net_memory.specs.Given.{given_of}
use Rattle.swizzle_plan.proofs.Whole.{sizes_good}
use Rattle.swizzle_plan.proofs.plan_refusal.Goals as goal

pub whole_refusal-requires : goal.whole_refusal-requires
whole_refusal-requires c =
    let v = c.args in
    sizes_good v.given.memory v.given.nets.now v.given.trits.now v.plan.swizzle v.plan.entries.now v.plan.writes.now v.plan.reads.now v.next v.output.now (sym (c.in_ok-driving_refusal.ensures ∙ ap (λ (t : Bool). driving_number t v.next (given_of v.given.memory v.given.nets.now v.given.trits.now) v.output.now) c.is_too_large-one.ensures))
