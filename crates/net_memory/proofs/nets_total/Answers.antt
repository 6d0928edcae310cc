-- `net_memory::nets_total` meets its contract.
use mathlib.Core.Path.{ap, ◌∙◌}
use native.Mathlib.Omega.{arith}
use Rattle.net_memory.specs.View.{nets_total, read_start}
use Rattle.net_memory.proofs.nets_total.Goals as goal

pub returns : goal.returns
unfolding nets_total
returns c =
    let e = c.ports_used-count.ensures.0 in
    (c.read_start.ensures.0 ∙ ap (read_start c.args.m.now) e, omega arith)
