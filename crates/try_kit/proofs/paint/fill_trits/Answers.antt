-- `try_kit::paint::fill_trits` meets its contract.
use mathlib.Core.Path.{refl, sym, ◌∙◌}
use Prim.Native.Nat.{◌%◌}
use native.Mathlib.Omega.{arith}
use lib.ListN.{length, length-set}
use Rattle.try_kit.specs.Paint.{trit_at_of}
use Rattle.try_kit.proofs.Turns.{fill_all, fill_turn, fill_end}
use Rattle.try_kit.proofs.paint.fill_trits.Goals as goal

pub loop-i-init : goal.loop-i-init
loop-i-init c = (refl, fill_all trit_at_of c.args.room.now)

pub loop-i-preserved : goal.loop-i-preserved
loop-i-preserved c =
    let l = c.loop-i in
    let n = length c.args.room.now in
    (simp length-set (omega arith), fill_turn trit_at_of l.room n l.i (l.i % 3) (omega arith) refl ∙ l.invariant.1)

pub shape_of-room : goal.shape_of-room
shape_of-room c = c.loop-i.invariant.0

pub returns : goal.returns
returns c =
    let l = c.loop-i in
    sym (fill_end trit_at_of l.room (length c.args.room.now) l.i (omega arith)) ∙ l.invariant.1
