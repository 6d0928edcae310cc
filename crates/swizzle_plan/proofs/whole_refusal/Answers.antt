-- `swizzle_plan::whole_refusal` meets its contract.
use Rattle.std.proofs.Common.{sym, ◌∙◌}
use Rattle.rules.specs.Beside.Shape.{result_number}
use Rattle.image_geometry.specs.View.{layout_by}
use Rattle.swizzle_plan.proofs.Whole.{by_nine, by_flat, by_ten}
use Rattle.swizzle_plan.proofs.whole_refusal.Goals as goal

pub returns-then-all_logs_bad : goal.returns-then-all_logs_bad
returns-then-all_logs_bad c =
    let v = c.args in
    by_nine v.given.memory v.given.nets.now v.given.trits.now v.plan.swizzle v.plan.entries.now v.plan.writes.now v.plan.reads.now c.in_ok-check_parts.ensures (sym (c.all_logs_bad.ensures v.given.trits.now v.plan.entries.now) ∙ c.if-all_logs_bad.true)

pub returns-then-given-eq0 : goal.returns-then-given-eq0
returns-then-given-eq0 c =
    let v = c.args in
    by_flat v.given.memory v.given.nets.now v.given.trits.now v.plan.swizzle v.plan.entries.now v.plan.writes.now v.plan.reads.now c.in_ok-check_parts.ensures (sym (c.all_logs_bad.ensures v.given.trits.now v.plan.entries.now) ∙ c.if-all_logs_bad.false) c.if-given-eq0.true

pub returns : goal.returns
returns c =
    let v = c.args in
    by_ten v.given.memory v.given.nets.now v.given.trits.now v.plan.swizzle v.plan.entries.now v.plan.writes.now v.plan.reads.now c.in_ok-check_parts.ensures (sym (c.all_logs_bad.ensures v.given.trits.now v.plan.entries.now) ∙ c.if-all_logs_bad.false) c.if-given-eq0.false c.requires _ (c.check_result.ensures ∙ (λ i. result_number (layout_by (c.layout.ensures.params i) (c.layout.ensures.entries i))))
