-- `swizzle_counts::refusal::rows_by_needs` meets its contract.
use Rattle.std.proofs.Common.{◌∙◌}
use Rattle.log_entries.specs.View.{state_of}
use Rattle.image_geometry.specs.View.{layout_by}
use Rattle.rules.specs.Beside.Shape.{shape_call}
use Rattle.swizzle_plan.specs.Calls.{params_by}
use Rattle.swizzle_counts.specs.Needs.{plus_needs, writes_needs, reads_needs}
use Rattle.swizzle_counts.specs.Refusal.{rooms_of, needs_refusal}
use Rattle.swizzle_counts.proofs.Rowed.{measured_not, measured_columns, measured_image, writes_move, reads_move, row_len}
use Rattle.swizzle_counts.proofs.refusal.rows_by_needs.Goals as goal

pub returns-in_err-z : goal.returns-in_err-z
returns-in_err-z c =
    let v = c.args in
    absurd (measured_not _ (params_by v.asked.given.memory v.asked.plan.swizzle) v.asked.plan.entries.now _ (c.measure.ensures ∙ (λ i. shape_call (layout_by c.layout-layout.result.params (c.layout-layout.ensures.entries i)))) c.layout-layout.ensures.params _ c.in_err-z.was (row_len (params_by v.asked.given.memory v.asked.plan.swizzle) v.asked.plan.entries.now c.requires.small))

pub writes_needs-w-requires : goal.writes_needs-w-requires
writes_needs-w-requires c =
    let v = c.args in
    writes_move v.asked.given.memory v.asked.given.nets.now _ (params_by v.asked.given.memory v.asked.plan.swizzle) _ _ c.layout-layout.ensures.params (measured_columns _ (params_by v.asked.given.memory v.asked.plan.swizzle) v.asked.plan.entries.now _ (c.measure.ensures ∙ (λ i. shape_call (layout_by c.layout-layout.result.params (c.layout-layout.ensures.entries i)))) c.layout-layout.ensures.params _ c.in_ok-z.was) c.layout-layout.result.entries.now v.asked.plan.entries.now c.layout-layout.ensures.entries v.asked.plan.writes.now c.requires.writes

pub reads_needs-d-requires : goal.reads_needs-d-requires
reads_needs-d-requires c =
    let v = c.args in
    reads_move v.asked.given.memory v.asked.given.nets.now _ (params_by v.asked.given.memory v.asked.plan.swizzle) _ _ c.layout-layout.ensures.params (measured_columns _ (params_by v.asked.given.memory v.asked.plan.swizzle) v.asked.plan.entries.now _ (c.measure.ensures ∙ (λ i. shape_call (layout_by c.layout-layout.result.params (c.layout-layout.ensures.entries i)))) c.layout-layout.ensures.params _ c.in_ok-z.was) v.asked.plan.reads.now c.requires.reads

pub returns : goal.returns
returns c =
    let v = c.args in
    let ep = c.layout-layout.ensures.params in
    let ec = measured_columns _ (params_by v.asked.given.memory v.asked.plan.swizzle) v.asked.plan.entries.now _ (c.measure.ensures ∙ (λ i. shape_call (layout_by c.layout-layout.result.params (c.layout-layout.ensures.entries i)))) c.layout-layout.ensures.params _ c.in_ok-z.was in
    let ei = measured_image _ (params_by v.asked.given.memory v.asked.plan.swizzle) v.asked.plan.entries.now _ (c.measure.ensures ∙ (λ i. shape_call (layout_by c.layout-layout.result.params (c.layout-layout.ensures.entries i)))) c.layout-layout.ensures.params _ c.in_ok-z.was in
    let en = c.plus.ensures ∙ (λ i. plus_needs ((c.writes_needs-w.ensures.0 ∙ (λ j. writes_needs v.asked.given.memory v.asked.given.nets.now (ep j) (ec j) (c.layout-layout.ensures.entries j) v.asked.plan.writes.now)) i) ((c.reads_needs-d.ensures.0 ∙ (λ j. reads_needs v.asked.given.memory v.asked.given.nets.now (ep j) (ec j) v.asked.plan.reads.now)) i)) in
    c.needs_refusal.ensures ∙ (λ i. needs_refusal (rooms_of v.r) v.r.log (state_of v.r.state) (en i) (ei i))
