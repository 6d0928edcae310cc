-- `net_memory::trit_start` meets its contract.
use mathlib.Core.Path.{◌≡◌, ap, ◌∙◌}
use Prim.Native.Nat.{ℕ, ◌+◌, min}
use native.Mathlib.Omega.{arith}
use lib.ListN.{length-take, take}
use Rattle.lists.specs.Lists.{sum_by}
use Rattle.rules.specs.Limits.{max_ports}
use Rattle.net_memory.specs.View.{trit_size}
use Rattle.net_memory.proofs.trit_start.Goals as goal

pub returns : goal.returns
returns c =
    let v = c.args in
    let q = c.end_of.ensures in
    let i : c.min.result ≡ min v.i max_ports = omega arith in
    (q.value trit_size (λ p n h. h.0) ∙ ap (λ (k : ℕ). v.m.now.init_len + sum_by trit_size (take k v.m.now.read_ports)) i, omega (arith, q.bound 0x300000000 (λ p n h. omega (arith, h.1)), length-take c.min.result v.m.now.read_ports, c.min.ensures))
