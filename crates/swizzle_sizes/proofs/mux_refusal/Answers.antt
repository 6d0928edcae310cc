-- `swizzle_sizes::mux_refusal` meets its contract.
use Rattle.std.proofs.Common.{sym, ◌∙◌}
use Rattle.swizzle_plan.specs.Calls.{plan_of}
use Rattle.swizzle_sizes.proofs.Refused.{by_nine, by_port, by_none}
use Rattle.swizzle_sizes.proofs.mux_refusal.Goals as goal

pub returns-then-logs_bad : goal.returns-then-logs_bad
returns-then-logs_bad c =
    let v = c.args in
    by_nine v.given.memory v.given.nets.now v.given.trits.now v.ports.now (plan_of v.plan.swizzle v.plan.entries.now v.plan.writes.now v.plan.reads.now) c.in_ok-planned_refusal.ensures (sym (c.logs_bad.ensures v.given.trits.now v.plan.entries.now) ∙ c.if-logs_bad.true)

pub returns-then-port_missing : goal.returns-then-port_missing
returns-then-port_missing c =
    let v = c.args in
    by_port v.given.memory v.given.nets.now v.given.trits.now v.ports.now (plan_of v.plan.swizzle v.plan.entries.now v.plan.writes.now v.plan.reads.now) c.in_ok-planned_refusal.ensures (sym (c.logs_bad.ensures v.given.trits.now v.plan.entries.now) ∙ c.if-logs_bad.false) (sym (c.port_missing.ensures v.given.nets.now v.given.trits.now) ∙ c.if-port_missing.true)

pub returns : goal.returns
returns c =
    let v = c.args in
    by_none v.given.memory v.given.nets.now v.given.trits.now v.ports.now (plan_of v.plan.swizzle v.plan.entries.now v.plan.writes.now v.plan.reads.now) c.in_ok-planned_refusal.ensures (sym (c.logs_bad.ensures v.given.trits.now v.plan.entries.now) ∙ c.if-logs_bad.false) (sym (c.port_missing.ensures v.given.nets.now v.given.trits.now) ∙ c.if-port_missing.false)
