-- `net_memory::trits_total` meets its contract.
use mathlib.Core.Path.{◌≡◌, ap, ◌∙◌}
use Prim.Native.Nat.{min}
use native.Mathlib.Omega.{arith}
use Rattle.rules.specs.Limits.{max_ports}
use Rattle.net_memory.specs.View.{trits_total, trit_start}
use Rattle.net_memory.proofs.trits_total.Goals as goal

pub returns : goal.returns
unfolding trits_total
returns c =
    let e : min c.ports_used-count.result max_ports ≡ min max_ports c.args.m.now.read_count = omega arith in
    (c.trit_start.ensures.0 ∙ ap (trit_start c.args.m.now) e, omega arith)
