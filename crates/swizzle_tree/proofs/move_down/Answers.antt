-- `swizzle_tree::move_down` meets its contract.
use lib.ListN.{length-set}
use Rattle.swizzle_tree.proofs.Stored.{move_turn, move_done}
use native.Mathlib.Omega.{arith}
use Rattle.swizzle_tree.proofs.move_down.Goals as goal

pub loop-i-preserved : goal.loop-i-preserved
loop-i-preserved c =
    let v = c.args in
    let l = c.loop-i in
    (simp length-set l.invariant.0, move_turn v.pieces.now l.pieces v.from v.to v.width l.i l.invariant.1 (omega arith) (omega arith) (omega arith))

pub returns : goal.returns
returns c =
    let v = c.args in
    let l = c.loop-i in
    move_done v.pieces.now l.pieces v.from v.to v.width l.i l.invariant.1 (omega arith) (omega arith) (omega arith)
