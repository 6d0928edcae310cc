-- `swizzle_plan::logs::reads_bad` meets its contract.
use Rattle.std.proofs.Common.{ℕ, ◌∙◌, rules}
use Rattle.rules.specs.Cell.{Mem, read_wide_log2, read_at_of}
use Rattle.net_memory.specs.View.{memory_of}
use Rattle.swizzle_plan.specs.Calls.{plan_of}
use Rattle.swizzle_plan.proofs.WideLogs.{wides_any, reads_form}
use Rattle.swizzle_plan.proofs.logs.reads_bad.Goals as goal

pub returns : goal.returns
returns c trits es =
    let m : Mem = memory_of c.args.given.memory c.args.given.nets.now trits in
    let p = c.args.plan in
    c.wides_bad.ensures (λ (i : ℕ). read_wide_log2 m (read_at_of m i)) (λ x r q. search rules)
    ∙ wides_any p.swizzle _ es p.writes.now p.reads.now _ _
    ∙ reads_form m (plan_of p.swizzle es p.writes.now p.reads.now) c.args.ports.now
