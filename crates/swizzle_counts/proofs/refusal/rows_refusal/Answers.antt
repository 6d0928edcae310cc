-- `swizzle_counts::refusal::rows_refusal` meets its contract.
use mathlib.Core.Path.{sym, ◌∙◌}
use Rattle.log_entries.specs.View.{state_of}
use Rattle.net_memory.specs.Given.{given_of}
use Rattle.net_memory.proofs.Sized.{writes_length, reads_length}
use Rattle.swizzle_plan.specs.Calls.{plan_of}
use Rattle.swizzle_counts.specs.Refusal.{rooms_of}
use Rattle.swizzle_counts.proofs.Refusing.{by_flat, by_empty}
use Rattle.swizzle_counts.proofs.Rowed.{mem_width, mem_depth_lem, rows_ready, rows_refused}
use Rattle.swizzle_counts.proofs.refusal.rows_refusal.Goals as goal

pub returns-then-given-eq0 : goal.returns-then-given-eq0
returns-then-given-eq0 c =
    let v = c.args in
    by_flat (rooms_of v.r) v.r.log (state_of v.r.state) (given_of v.asked.given.memory v.asked.given.nets.now v.asked.given.trits.now) v.asked.output.now (plan_of v.asked.plan.swizzle v.asked.plan.entries.now v.asked.plan.writes.now v.asked.plan.reads.now) (sym c.in_ok-plan_refusal.ensures) (mem_width v.asked.given.memory v.asked.given.nets.now v.asked.given.trits.now ∙ c.if-given-eq0.true) _ c.room_refusal.ensures

pub returns-then-given-eq0-2 : goal.returns-then-given-eq0-2
returns-then-given-eq0-2 c =
    let v = c.args in
    by_empty (rooms_of v.r) v.r.log (state_of v.r.state) (given_of v.asked.given.memory v.asked.given.nets.now v.asked.given.trits.now) v.asked.output.now (plan_of v.asked.plan.swizzle v.asked.plan.entries.now v.asked.plan.writes.now v.asked.plan.reads.now) (sym c.in_ok-plan_refusal.ensures) (λ f. c.if-given-eq0.false (sym (mem_width v.asked.given.memory v.asked.given.nets.now v.asked.given.trits.now) ∙ f)) (mem_depth_lem v.asked.given.memory v.asked.given.nets.now v.asked.given.trits.now ∙ c.if-given-eq0-2.true)

pub rows_by_needs-requires : goal.rows_by_needs-requires
rows_by_needs-requires c =
    let v = c.args in
    rows_ready (rooms_of v.r) v.r.log (state_of v.r.state) v.asked.given.memory v.asked.given.nets.now v.asked.given.trits.now v.asked.plan.swizzle v.asked.plan.entries.now v.asked.plan.writes.now v.asked.plan.reads.now v.asked.output.now (sym c.in_ok-plan_refusal.ensures) c.if-given-eq0.false c.if-given-eq0-2.false (writes_length v.asked.given.memory _ c.well_formed.1.0.1.1.0.1.1.0 v.asked.given.nets.now) (reads_length v.asked.given.memory _ c.well_formed.1.0.1.1.0.1.1.0 v.asked.given.nets.now v.asked.given.trits.now)

pub returns : goal.returns
returns c =
    let v = c.args in
    rows_refused (rooms_of v.r) v.r.log (state_of v.r.state) v.asked.given.memory v.asked.given.nets.now v.asked.given.trits.now v.asked.plan.swizzle v.asked.plan.entries.now v.asked.plan.writes.now v.asked.plan.reads.now v.asked.output.now (sym c.in_ok-plan_refusal.ensures) c.if-given-eq0.false c.if-given-eq0-2.false (writes_length v.asked.given.memory _ c.well_formed.1.0.1.1.0.1.1.0 v.asked.given.nets.now) (reads_length v.asked.given.memory _ c.well_formed.1.0.1.1.0.1.1.0 v.asked.given.nets.now v.asked.given.trits.now) _ c.rows_by_needs.ensures
