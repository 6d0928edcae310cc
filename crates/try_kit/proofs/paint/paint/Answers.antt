-- `try_kit::paint::paint` meets its contract.
use Rattle.try_kit.proofs.Turns.{fill_all, fill_turn, fill_end}
use mathlib.Core.Path.{refl, sym, ◌∙◌}
use native.Mathlib.Omega.{arith}
use lib.ListN.{length, length-set}
use Rattle.try_kit.proofs.paint.paint.Goals as goal

pub loop-i-init : goal.loop-i-init
loop-i-init g c = (refl, fill_all g.T.Pattern.pattern c.args.room.now)

pub loop-i-preserved : goal.loop-i-preserved
loop-i-preserved g c =
    let l = c.loop-i in
    let n = length c.args.room.now in
    (simp length-set (omega arith), fill_turn g.T.Pattern.pattern l.room n l.i c.paint_at.result (omega arith) c.paint_at.ensures ∙ l.invariant.1)

pub shape_of-room : goal.shape_of-room
shape_of-room g c = c.loop-i.invariant.0

pub returns : goal.returns
returns g c =
    let l = c.loop-i in
    sym (fill_end g.T.Pattern.pattern l.room (length c.args.room.now) l.i (omega arith)) ∙ l.invariant.1
