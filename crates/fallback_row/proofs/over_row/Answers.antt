-- `fallback_row::over_row` meets its contract.
use native.Mathlib.Omega.{arith}
use lib.Seq.{length-take-le}
use Rattle.log_entries.specs.View.{lent_of}
use Rattle.fallback_row.proofs.Register.{over_gave}
use Rattle.fallback_row.proofs.over_row.Goals as goal

pub returns : goal.returns
returns c =
    let v = c.args in
    let p = c.emit_bitwise_nets in
    over_gave v.w v.mask.now v.bits.now v.row.now.nets c.copy.new.to v.row.now.spare p.new.nets (lent_of v.log.now) (lent_of p.new.log) c.requires.0 c.requires.1 c.requires.2 (omega arith) (omega arith)
    (length-take-le v.w v.row.now.nets (omega arith)) (length-take-le v.w p.new.nets (omega (arith, p.auto.nets))) p.ensures.log_after p.ensures.nets_after c.copy.ensures
