-- `table_differ::put_trits` meets its contract.
use Rattle.table_differ.proofs.Lines.{row_text}
use Rattle.table_print.proofs.Putting.{length_bits}
use Rattle.table_print.specs.Rows.{bits_text}
use Rattle.record_listing.proofs.Puts.{added_as}
use mathlib.Core.Path.{refl, ◌∙◌}
use native.Mathlib.Omega.{arith}
use mathlib.Core.List.{[]}
use Rattle.table_differ.proofs.put_trits.Goals as goal

pub returns : goal.returns
returns c =
    let a = c.args in
    let t = bits_text a.row.now 0 a.size.width [] in
    let w = added_as t (c.part.ensures.part ∙ row_text a.size.width _ a.row.now _ a.size.within refl c.put_rows.ensures.0) (c.put.ensures (omega (arith, c.part.ensures.most, c.requires, a.size.within))) in
    (w, omega (arith, w.put.place, length_bits a.row.now 0 a.size.width, a.size.within))
