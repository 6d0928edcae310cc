-- `net_memory::output_start` meets its contract.
use mathlib.Core.Path.{◌≡◌, ap}
use Prim.Native.Nat.{ℕ, min}
use native.Mathlib.Omega.{arith}
use lib.ListN.{length-take, take}
use Rattle.lists.specs.Lists.{sum_by}
use Rattle.rules.specs.Limits.{max_ports}
use Rattle.net_memory.proofs.Outputs.{data_size, output_start_lem}
use Rattle.net_memory.proofs.output_start.Goals as goal

pub returns-clause-by_index : goal.returns-clause-by_index
returns-clause-by_index c nets trits =
    let v = c.args in
    let i : c.min-end.result ≡ min v.i (min max_ports v.m.now.read_count) = omega arith in
    let k = c.end_of.ensures.value data_size (λ p n h. h.0) in
    omega (arith, k, ap (λ (k : ℕ). sum_by data_size (take k v.m.now.read_ports)) i, output_start_lem v.m.now nets trits v.i)

pub returns-clause-upper_bound : goal.returns-clause-upper_bound
returns-clause-upper_bound c = omega (arith, c.end_of.ensures.bound 0x100000000 (λ p n h. omega (arith, h.1)), length-take c.min-end.result c.args.m.now.read_ports)
