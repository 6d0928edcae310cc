-- `lists::store_run` meets its contract.
use Rattle.std.proofs.Common.{◌+◌, ◌-◌, ◌<◌, sym, arith}
use Rattle.lists.specs.Lists.{up_from}
use Rattle.lists.proofs.UpFrom.{length_up, up_at}
use Rattle.lists.proofs.Mids.{part_turn, part_done, part_room}
use Rattle.lists.proofs.store_run.Goals as goal

pub loop-i-preserved : goal.loop-i-preserved
loop-i-preserved c =
    let l = c.loop-i in
    let n = c.args.last - c.args.first in
    let room = part_room c.args.to.now c.min-start.result c.min-n.result (c.min-start.result + c.min-n.result - c.min-start.result) (omega arith) (omega arith) in
    let h : l.i < n = omega (arith, room) in
    part_turn _ l.place-items (up_from c.args.first n) l.i (c.args.first + l.i) 0 l.invariant (omega (arith, length_up c.args.first n)) (sym (up_at c.args.first n l.i 0 h))

pub returns : goal.returns
returns c =
    let l = c.loop-i in
    let n = c.args.last - c.args.first in
    let room = part_room c.args.to.now c.min-start.result c.min-n.result (c.min-start.result + c.min-n.result - c.min-start.result) (omega arith) (omega arith) in
    part_done c.args.to.now (up_from c.args.first n) l.place-items c.args.at c.min-start.result c.min-n.result l.i (omega arith) (omega arith) (omega (arith, length_up c.args.first n)) (omega (arith, room)) l.invariant
