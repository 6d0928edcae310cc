-- `lists::copy_u8_to_u32` meets its contract.
use Rattle.std.proofs.Common.{◌∙◌, ◌<◌, ◌+◌, ap, arith, length, set}
use Rattle.std.proofs.lemmas.List.{get_or-take}
use lib.ListN.{length-take}
use Rattle.lists.proofs.Store.{copy_turn, copy_done}
use Rattle.lists.proofs.Mids.{sets_from}
use Rattle.lists.proofs.copy_u8_to_u32.Goals as goal

pub loop-i-preserved : goal.loop-i-preserved
loop-i-preserved c =
    let l = c.loop-i in
    let room = length-take c.min-n.result c.args.from.now in
    let h : l.i < length c.args.from.now = omega (arith, room) in
    ap (set l.to (c.min-start.result + l.i)) (c.from.ensures ∙ get_or-take c.min-n.result c.args.from.now l.i 0 (omega (arith, room)))
    ∙ copy_turn c.args.to.now l.to c.min-start.result l.i c.args.from.now l.invariant 0 h

pub returns : goal.returns
returns c =
    let l = c.loop-i in
    let room = length-take c.min-n.result c.args.from.now in
    copy_done c.args.to.now l.to c.min-start.result l.i c.args.from.now l.invariant (omega (arith, room))
    ∙ sets_from c.args.to.now c.args.from.now c.args.at c.min-start.result c.min-start.ensures
