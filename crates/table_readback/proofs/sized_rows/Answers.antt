-- `table_readback::sized_rows` meets its contract.
use Rattle.std.proofs.lemmas.Result.{err_from_is_err_and}
use Rattle.table_readback.proofs.Ends.{rows_refused, rows_same, rows_other}
use Rattle.image_geometry.specs.View.{layout_of}
use Rattle.record_codec.specs.View.{view_head}
use Rattle.record_sizes.specs.View.{view_sizes}
use borrow.Author.Tests.{not-true, not-false}
use Rattle.table_readback.specs.Back.{same_sizes}
use mathlib.Core.Path.{sym, ap}
use Rattle.table_readback.proofs.sized_rows.Goals as goal

pub returns-in_err-read : goal.returns-in_err-read
returns-in_err-read c =
    let a = c.args in
    let p = err_from_is_err_and c.from_residual.result c.from_residual.ensures.1 in
    rw (p.1, p.2) (rows_refused (layout_of a.layout) (view_sizes a.sizes) a.room.now a.image.now (view_head a.head) _ (ap view_head c.in_err-read.was))

pub returns-then-ne : goal.returns-then-ne
unfolding same_sizes
returns-then-ne c =
    let a = c.args in
    rows_other (layout_of a.layout) (view_sizes a.sizes) a.room.now a.image.now (view_head a.head) _ (ap view_head c.in_ok-read.was) (sym (not-true _ (sym c.if-ne.ensures)))

pub returns : goal.returns
unfolding same_sizes
returns c =
    let a = c.args in
    rows_same (layout_of a.layout) (view_sizes a.sizes) a.room.now a.image.now (view_head a.head) _ _ (ap view_head c.in_ok-read.was) (sym (not-false _ (sym c.if-ne.ensures))) c.read_rows.ensures
