-- `table_print::put_row` meets its contract.
use Rattle.record_listing.proofs.Puts.{added_then, added_as}
use Rattle.table_print.proofs.Back.{bits_append}
use Rattle.table_print.proofs.Putting.{length_bits}
use native.Mathlib.Omega.{arith}
use mathlib.Core.List.{[], ◌∷◌}
use Rattle.table_print.proofs.put_row.Goals as goal

pub returns : goal.returns
returns c =
    let a = c.args in
    let p = c.put_bits.ensures in
    added_as _ (bits_append a.rows.now a.from a.size.width [] (10 ∷ []))
    (added_then p (c.put_byte.ensures (omega (arith, p.put.place, length_bits a.rows.now a.from a.size.width, c.requires, a.size.within))))
