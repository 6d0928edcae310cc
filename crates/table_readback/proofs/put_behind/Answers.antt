-- `table_readback::put_behind` meets its contract.
use Rattle.table_print.specs.Rows.{rows_shown}
use Rattle.table_readback.proofs.Ends.{put-behind}
use mathlib.Core.Path.{refl}
use Rattle.table_readback.proofs.put_behind.Goals as goal

pub returns : goal.returns
returns c =
    let a = c.args in
    put-behind a.out.now (rows_shown a.rows.depth a.rows.width a.rows.trits.now) _ a.at _ c.requires refl c.put_rows.ensures.0
