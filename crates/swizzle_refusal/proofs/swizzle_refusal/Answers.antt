-- `swizzle_refusal::swizzle_refusal` meets its contract.
use mathlib.Core.Path.{refl, sym, ◌∙◌}
use Rattle.log_entries.specs.View.{state_of}
use Rattle.net_memory.specs.Given.{given_of}
use Rattle.swizzle_plan.specs.Calls.{plan_of}
use Rattle.swizzle_counts.specs.Refusal.{rooms_of}
use Rattle.swizzle_counts.proofs.Rowed.{mem_width, mem_depth_lem}
use Rattle.swizzle_refusal.proofs.Joined.{joined-flat, joined_rows, joined_short, joined_empty}
use Rattle.swizzle_refusal.proofs.swizzle_refusal.Goals as goal

pub returns-then-given-eq0 : goal.returns-then-given-eq0
returns-then-given-eq0 c =
    let v = c.args in
    joined-flat (rooms_of v.r) v.r.log (state_of v.r.state) (given_of v.asked.given.memory v.asked.given.nets.now v.asked.given.trits.now) v.asked.output.now (plan_of v.asked.plan.swizzle v.asked.plan.entries.now v.asked.plan.writes.now v.asked.plan.reads.now) _ c.in_ok-rows_refusal.ensures refl (mem_width v.asked.given.memory v.asked.given.nets.now v.asked.given.trits.now ∙ c.if-given-eq0.true)

pub returns-then-given-ne0 : goal.returns-then-given-ne0
returns-then-given-ne0 c =
    let v = c.args in
    joined_rows (rooms_of v.r) v.r.log (state_of v.r.state) (given_of v.asked.given.memory v.asked.given.nets.now v.asked.given.trits.now) v.asked.output.now (plan_of v.asked.plan.swizzle v.asked.plan.entries.now v.asked.plan.writes.now v.asked.plan.reads.now) _ c.in_ok-rows_refusal.ensures refl (λ f. c.if-given-ne0.true (sym (mem_depth_lem v.asked.given.memory v.asked.given.nets.now v.asked.given.trits.now) ∙ f))

pub returns-then-ports_short : goal.returns-then-ports_short
returns-then-ports_short c =
    let v = c.args in
    joined_short (rooms_of v.r) v.r.log (state_of v.r.state) v.asked.given.memory v.asked.given.nets.now v.asked.given.trits.now v.asked.output.now v.asked.plan.swizzle v.asked.plan.entries.now v.asked.plan.writes.now v.asked.plan.reads.now _ c.in_ok-rows_refusal.ensures refl c.if-given-eq0.false c.if-given-ne0.false (sym (c.ports_short.ensures v.asked.given.trits.now) ∙ c.if-ports_short.true)

pub returns : goal.returns
returns c =
    let v = c.args in
    joined_empty (rooms_of v.r) v.r.log (state_of v.r.state) v.asked.given.memory v.asked.given.nets.now v.asked.given.trits.now v.asked.output.now v.asked.plan.swizzle v.asked.plan.entries.now v.asked.plan.writes.now v.asked.plan.reads.now _ c.in_ok-rows_refusal.ensures refl c.if-given-eq0.false c.if-given-ne0.false _ (sym (c.ports_short.ensures v.asked.given.trits.now) ∙ c.if-ports_short.false) c.empty_refusal.ensures
