-- `table_rows::check_room` meets its contract.
use Rattle.image_rows.proofs.Filling.{words_product}
use Rattle.image_geometry.proofs.Fields.{depth_word, width_word}
use native.Mathlib.Omega.{arith}
use Rattle.table_rows.proofs.check_room.Goals as goal

pub overflow_mul-from : goal.overflow_mul-from
overflow_mul-from c =
    omega (arith, words_product _ _ c.args.p.depth c.args.p.width c.from.ensures c.from-else-len-size.ensures (depth_word c.args.p _ c.well_formed.1.0) (width_word c.args.p _ c.well_formed.1.0))
