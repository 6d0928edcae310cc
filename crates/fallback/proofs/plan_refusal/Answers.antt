-- `fallback::plan_refusal` meets its contract.
use mathlib.Core.Path.{ap, ◌∙◌}
use Rattle.rules.specs.Cell.{Plan}
use Rattle.rules.specs.Refusals.{swizzle_refusal}
use Rattle.log_entries.specs.View.{state_of}
use Rattle.net_memory.specs.Given.{view_given}
use Rattle.swizzle_counts.specs.Refusal.{rooms_of}
use Rattle.fallback.proofs.plan_refusal.Goals as goal

pub returns : goal.returns
returns c =
    let v = c.args in
    c.swizzle_refusal.ensures ∙ ap (λ (y : Plan). swizzle_refusal (rooms_of v.r) v.r.log (state_of v.r.state) (view_given v.given) v.outs.now y) (c.plan.ensures c.of-lists.ensures c.requires)
