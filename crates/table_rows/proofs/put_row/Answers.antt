-- `table_rows::put_row` meets its contract.
use lib.Seq.{sets}
use Rattle.image_geometry.specs.View.{layout_of}
use Rattle.table_rows.proofs.Reading.{row_is}
use mathlib.Core.Path.{refl, ap, ◌∙◌}
use Rattle.table_rows.proofs.put_row.Goals as goal

pub returns : goal.returns
returns c =
    let a = c.args in
    let q = layout_of a.layout in
    let pre = c.requires in
    c.copy.ensures
    ∙ ap (sets a.room.now a.at) (c.part.ensures.part ∙ row_is q pre.0 a.image.now pre.1 a.row pre.2 _ _ _ c.read_row.ensures refl)
