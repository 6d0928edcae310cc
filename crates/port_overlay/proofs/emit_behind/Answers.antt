-- `port_overlay::emit_behind` meets its contract.
use native.Mathlib.Omega.{arith}
use lib.ListN.{take}
use lib.Seq.{length-take-le}
use Rattle.log_entries.specs.View.{lent_of}
use Rattle.port_overlay.specs.Laid.{with_bits}
use Rattle.port_overlay.proofs.Laid.{behind_ran}
use Rattle.port_overlay.proofs.emit_behind.Goals as goal

pub returns : goal.returns
returns c =
    let v = c.args in
    let p = c.dff_into in
    let r = c.emit_replace in
    behind_ran (with_bits v.f (take v.n v.overlay.now.under)) v.f.bits.now (take v.n p.new.out) (lent_of v.log.now) (lent_of p.new.log) (lent_of r.new.self)
    (rw (length-take-le v.n v.overlay.now.under (omega arith)) at (p.ensures (omega (arith, length-take-le v.n v.overlay.now.under (omega arith))))) r.ensures
