-- `fallback_row::held_row` meets its contract.
use mathlib.Core.Path.{ap, ◌∙◌}
use native.Mathlib.Omega.{arith}
use lib.ListN.{take}
use lib.Seq.{length-take-le}
use Rattle.rules.specs.Cell as cell
use Rattle.port_overlay.specs.Laid.{behind}
use Rattle.net_flip_flop.specs.View.{controls_of, flip_flop}
use Rattle.log_entries.specs.Emission.{run}
use Rattle.log_entries.specs.View.{lent_of}
use Rattle.port_overlay.proofs.Laid.{behind_ran}
use Rattle.fallback_row.proofs.held_row.Goals as goal

pub returns-clause-log_after : goal.returns-clause-log_after
returns-clause-log_after c =
    let v = c.args in
    let k = c.plain in
    let row = take v.w v.row.now.nets in
    let q = take v.w v.q.now in
    behind_ran (flip_flop (controls_of k.result) row v.init.now v.init.now v.init.now) q (take v.w c.dff_into.new.out) (lent_of v.log.now) (lent_of c.dff_into.new.log) (lent_of c.emit_replace.new.self) (rw (length-take-le v.w v.row.now.nets (omega arith)) at (c.dff_into.ensures (omega (arith, length-take-le v.w v.row.now.nets (omega arith))))) c.emit_replace.ensures
    ∙ ap (λ (x : cell.Controls). run (behind (flip_flop x row v.init.now v.init.now v.init.now) q) (lent_of v.log.now)) k.ensures
