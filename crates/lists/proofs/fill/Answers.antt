-- `lists::fill` meets its contract.
use Rattle.std.proofs.Common.{◌+◌, ◌-◌, ◌<◌, sym, arith, replicate}
use lib.ListN.{length-replicate, get_or-replicate}
use Rattle.lists.proofs.Mids.{part_turn, part_done, part_room}
use Rattle.lists.proofs.fill.Goals as goal

pub loop-place-preserved : goal.loop-place-preserved
loop-place-preserved g c =
    let l = c.loop-place in
    let v = c.args.value in
    let many = length-replicate c.args.count v in
    let room = part_room c.args.to.now c.min-start.result c.min-n.result (c.min-start.result + c.min-n.result - c.min-start.result) (omega arith) (omega arith) in
    let h : l.place-index < c.args.count = omega (arith, room) in
    part_turn _ l.place-items (replicate c.args.count v) l.place-index v v l.invariant (omega (arith, many, h)) (sym (get_or-replicate _ _ _ _ h))

pub returns : goal.returns
returns g c =
    let l = c.loop-place in
    let ws = replicate c.args.count c.args.value in
    let many = length-replicate c.args.count c.args.value in
    let room = part_room c.args.to.now c.min-start.result c.min-n.result (c.min-start.result + c.min-n.result - c.min-start.result) (omega arith) (omega arith) in
    part_done c.args.to.now ws l.place-items c.args.at c.min-start.result c.min-n.result l.place-index (omega arith) (omega arith) (omega (arith, many)) (omega (arith, room)) l.invariant
