-- `net_memory::write_start` meets its contract.
use native.Mathlib.Omega.{arith}
use lib.ListN.{length-take}
use Rattle.net_memory.specs.View.{write_size}
use Rattle.net_memory.proofs.write_start.Goals as goal

pub returns : goal.returns
returns c =
    let q = c.end_of.ensures in
    (omega (arith, q.value write_size (λ p n h. h.0)), omega (arith, q.bound 0x300000000 (λ p n h. omega (arith, h.1)), length-take c.args.i c.args.m.now.write_ports, c.requires))
