-- `net_memory::reads_start` meets its contract.
use mathlib.Core.Path.{ap, ◌∙◌}
use native.Mathlib.Omega.{arith}
use Rattle.net_memory.specs.View.{write_start}
use Rattle.net_memory.proofs.reads_start.Goals as goal

pub returns : goal.returns
returns c =
    let e = c.ports_used-count.ensures.0 in
    (c.write_start.ensures.0 ∙ ap (write_start c.args.m.now) e, omega arith)
