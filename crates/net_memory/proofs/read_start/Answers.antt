-- `net_memory::read_start` meets its contract.
use native.Mathlib.Omega.{arith}
use lib.ListN.{length-take}
use Rattle.net_memory.specs.View.{addr_size}
use Rattle.net_memory.proofs.read_start.Goals as goal

pub returns : goal.returns
returns c =
    let q = c.end_of.ensures in
    (omega (arith, q.value addr_size (λ p n h. h.0), c.reads_start.ensures.0), omega (arith, q.bound 0x100000000 (λ p n h. omega (arith, h.1)), length-take c.args.i c.args.m.now.read_ports, c.requires))
