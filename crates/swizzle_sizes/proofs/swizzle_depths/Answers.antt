-- `swizzle_sizes::swizzle_depths` meets its contract.
use Rattle.image_geometry.specs.View.{layout_by}
use Rattle.swizzle_plan.proofs.Planned.{depths_done}
use Rattle.swizzle_sizes.proofs.swizzle_depths.Goals as goal

pub returns : goal.returns
returns c =
    let v = c.args in
    depths_done v.given.memory v.given.nets.now v.given.trits.now v.plan.swizzle v.plan.entries.now v.plan.writes.now v.plan.reads.now v.out.now c.in_ok-planned_refusal.ensures _ _
    (λ i. layout_by (c.layout-layout.ensures.params i) (c.layout-layout.ensures.entries i)) c.in_ok-check_result.ensures c.depths.ensures
