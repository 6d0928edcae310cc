-- `table_readback::record_rows` meets its contract.
use Rattle.table_readback.proofs.Ends.{rows_are}
use Rattle.image_geometry.specs.View.{layout_of}
use Rattle.record_sizes.specs.View.{view_sizes}
use mathlib.Core.Path.{◌∙◌}
use Rattle.table_readback.proofs.record_rows.Goals as goal

pub returns : goal.returns
returns c =
    let a = c.args in
    c.sized_rows.ensures ∙ rows_are (layout_of a.layout) (view_sizes a.sizes) a.room.now a.bytes.now _ _ c.read_record-head.ensures.0 c.read_record-head.ensures.1
