-- `fallback_plan::Lists::plan` meets its contract.
use mathlib.Core.Path.{ap, ◌∙◌}
use native.Mathlib.Omega.{arith}
use Rattle.lists.specs.Lists.{part}
use Rattle.swizzle_plan.specs.Calls.{plan_of}
use Rattle.fallback_plan.specs.declared.Lists as spec
use Rattle.fallback_plan.proofs.Listed.{entries_are, zeros_are}
use Rattle.fallback_plan.proofs.Lists.plan.Goals as goal

pub returns : goal.returns
returns c e h =
    let m = c.args.given.memory in
    let es = c.part.ensures.part ∙ ap (λ (l : spec.Lists). part 0 m.width l.entries) e ∙ entries_are m.width h in
    let ws = c.part-2.ensures.part ∙ (λ i. part 0 (c.ports_used.ensures.0 i) (e i).zeros) ∙ zeros_are _ (omega (arith, c.ports_used.ensures)) in
    let rs = c.part-3.ensures.part ∙ (λ i. part 0 (c.ports_used-2.ensures.0 i) (e i).zeros) ∙ zeros_are _ (omega (arith, c.ports_used-2.ensures)) in
    (λ i. plan_of c.fallback_swizzle.result (es i) (ws i) (rs i)) ∙ c.fallback_swizzle.ensures c.args.given.trits.now
