-- `table_rows::put_all` meets its contract.
use Rattle.table_rows.proofs.Reading.{on_start, on_turn, on_last, times_max, one_more, no_times}
use lib.Seq.{length-sets}
use Rattle.rules.specs.Beside.Layouts.{read_row}
use Rattle.rules.proofs.GoodLayouts.{good_small}
use Rattle.image_geometry.specs.View.{layout_of}
use mathlib.Core.Path.{refl, sym, ap, ◌∙◌}
use native.Mathlib.Omega.{arith}
use lib.ListN.{length}
use Rattle.table_rows.proofs.put_all.Goals as goal

pub loop-row-init : goal.loop-row-init
loop-row-init c =
    let a = c.args in
    (refl, no_times a.layout.params.width, on_start (layout_of a.layout) a.image.now a.room.now)

pub put_row-requires : goal.put_row-requires
put_row-requires c = (c.requires.0, c.requires.1, c.loop-row-test.true)

pub overflow_add-at : goal.overflow_add-at
overflow_add-at c =
    let a = c.args in
    let l = c.loop-row in
    let s = good_small (layout_of a.layout) c.requires.0 in
    omega (arith, l.invariant.1, times_max l.row a.layout.params.width a.layout.params.depth (omega arith) s.depth_max s.width_max, s.width_max)

pub loop-row-preserved : goal.loop-row-preserved
loop-row-preserved c =
    let a = c.args in
    let l = c.loop-row in
    let q = layout_of a.layout in (
      ap length c.put_row.ensures ∙ length-sets l.room l.at (read_row q a.image.now l.row) ∙ l.invariant.0,
      omega (arith, l.invariant.1, one_more l.row a.layout.params.width),
      on_turn q a.image.now l.room _ l.at _ l.row c.loop-row-test.true c.put_row.ensures refl ∙ l.invariant.2,
    )

pub shape_of-room : goal.shape_of-room
shape_of-room c = c.loop-row.invariant.0

pub returns : goal.returns
returns c =
    let a = c.args in
    let l = c.loop-row in
    sym (on_last (layout_of a.layout) a.image.now l.room l.at l.row (omega (arith, c.loop-row-test.false))) ∙ l.invariant.2
