-- `port_unreset::blank` meets its contract.
use native.Mathlib.Omega.{arith}
use Rattle.net_memory.proofs.Sized.{read_ports_8}
use Rattle.port_unreset.proofs.View.{trits_past}
use Rattle.port_unreset.proofs.blank.Goals as goal

pub returns-then-i-ge-MAX_PORTS : goal.returns-then-i-ge-MAX_PORTS
returns-then-i-ge-MAX_PORTS c =
    trits_past c.args.m c.args.i c.args.trits.now (omega (arith, read_ports_8 c.args.m _ c.well_formed.1.0, c.if-i-ge-MAX_PORTS.true))
