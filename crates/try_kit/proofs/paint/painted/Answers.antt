-- `try_kit::paint::painted` meets its contract.
use Rattle.try_kit.proofs.Turns.{painted_fail, painted_pass, painted_end}
use mathlib.Core.Path.{refl, sym, ◌∙◌}
use native.Mathlib.Omega.{arith}
use Rattle.try_kit.proofs.paint.painted.Goals as goal

pub loop-i-init : goal.loop-i-init
loop-i-init g c = refl

pub returns-then-ne : goal.returns-then-ne
returns-then-ne g c =
    let l = c.loop-i in
    painted_fail g.T.PartialEq.eq g.T.Pattern.pattern c.args.room.now l.i _ _ (omega arith) c.index-room-i.is c.paint_at.ensures (sym c.ne.ensures ∙ c.if-ne.true)
    ∙ l.invariant

pub loop-i-preserved : goal.loop-i-preserved
loop-i-preserved g c =
    let l = c.loop-i in
    painted_pass g.T.PartialEq.eq g.T.Pattern.pattern c.args.room.now l.i _ _ (omega arith) c.index-room-i.is c.paint_at.ensures (sym c.ne.ensures ∙ c.if-ne.false)
    ∙ l.invariant

pub returns : goal.returns
returns g c =
    let l = c.loop-i in
    painted_end g.T.PartialEq.eq g.T.Pattern.pattern c.args.room.now l.i (omega arith) ∙ l.invariant
