-- `image_patches::call_one` meets its contract.
use mathlib.Core.Path.{sym}
use lib.Seq.{length-take-le}
use Rattle.rules.specs.Beside.Shape.{handed_on}
use Rattle.image_geometry.specs.View.{layout_of}
use Rattle.image_patches.proofs.Calling.{whole_call, part_call}
use native.Mathlib.Omega.{arith}
use Rattle.image_patches.proofs.call_one.Goals as goal

pub returns-then-buffer-room : goal.returns-then-buffer-room
returns-then-buffer-room c =
    let a = c.args in
    whole_call (handed_on (layout_of a.layout)) (record { row = a.row; trits = a.trits.now; room = a.room }) a.buffer.now _ c.if-buffer-room.true c.patch_row.ensures

pub slice_bounds-patch_row-end-2 : goal.slice_bounds-patch_row-end-2
slice_bounds-patch_row-end-2 c = sym (length-take-le c.args.room c.args.buffer.now (omega (arith, c.if-buffer-room.false)))

pub returns : goal.returns
returns c =
    let a = c.args in
    part_call (handed_on (layout_of a.layout)) (record { row = a.row; trits = a.trits.now; room = a.room }) a.buffer.now _ _ c.if-buffer-room.false c.patch_row-2.ensures
