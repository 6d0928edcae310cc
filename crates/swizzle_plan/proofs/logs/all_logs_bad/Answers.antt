-- `swizzle_plan::logs::all_logs_bad` meets its contract.
use mathlib.Core.Path.{ap, ◌∙◌}
use mathlib.Core.Bool.{◌||◌}
use mathlib.Core.List.{List}
use Prim.Native.Nat.{ℕ}
use Rattle.rules.specs.Cell.{Mem, Plan}
use Rattle.rules.specs.Conditions.{bad_writes, bad_reads}
use Rattle.net_memory.specs.View.{memory_of}
use Rattle.net_memory.proofs.Sized.{reads_length}
use Rattle.swizzle_plan.specs.Calls.{plan_of}
use Rattle.swizzle_plan.proofs.Whole.{every_port}
use Rattle.swizzle_plan.proofs.logs.all_logs_bad.Goals as goal

pub returns : goal.returns
returns c trits es =
    let g = c.args.given in
    let x = c.ports_in_use.ensures ∙ every_port g.memory g.nets.now trits _ (reads_length g.memory _ c.well_formed.0.1.1.0 g.nets.now trits) in
    let m : Mem = memory_of g.memory g.nets.now trits in
    let p : Plan = plan_of c.args.plan.swizzle es c.args.plan.writes.now c.args.plan.reads.now in
    c.logs_bad.ensures trits es ∙ ap (λ (l : List ℕ). bad_writes m p || bad_reads m l p) x
