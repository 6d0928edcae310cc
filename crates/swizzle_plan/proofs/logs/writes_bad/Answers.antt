-- `swizzle_plan::logs::writes_bad` meets its contract.
use Rattle.std.proofs.Common.{ℕ, List, map, ap, ◌∙◌, rules}
use Rattle.rules.specs.Cell.{Mem, Plan, write_wide_log2, write_at}
use Rattle.net_memory.specs.View.{memory_of}
use Rattle.net_memory.proofs.Sized.{writes_length}
use Rattle.swizzle_plan.specs.Calls.{plan_of}
use Rattle.swizzle_plan.specs.Numbers.{wides_bad}
use Rattle.swizzle_plan.proofs.WideLogs.{wides_any, writes_form, writes_count}
use Rattle.swizzle_plan.proofs.logs.writes_bad.Goals as goal

pub returns : goal.returns
returns c trits es =
    let g = c.args.given in
    let q = c.args.plan in
    let m : Mem = memory_of g.memory g.nets.now trits in
    let p : Plan = plan_of q.swizzle es q.writes.now q.reads.now in
    let f : ℕ → ℕ = λ (i : ℕ). write_wide_log2 m (write_at m i) in
    c.wides_bad.ensures f (λ x r q. search rules)
    ∙ wides_any q.swizzle _ es q.writes.now q.reads.now _ _
    ∙ ap (λ (l : List ℕ). wides_bad p (map f l) p.write_wide) c.ports_in_use-ports.ensures
    ∙ writes_form m p _ (writes_count g.memory g.nets.now trits ∙ writes_length g.memory _ c.well_formed.0.1.1.0 g.nets.now)
