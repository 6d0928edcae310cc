-- `swizzle_columns::columns` meets its contract.
use Rattle.std.proofs.Common.{◌∙◌, sym, length}
use Rattle.swizzle_columns.proofs.Fits.{fits_say}
use Rattle.swizzle_columns.proofs.columns.Goals as goal

pub columns_in-requires-clause-fits : goal.columns_in-requires-clause-fits
columns_in-requires-clause-fits g c =
    let v = c.args in fits_say v.p (length v.entries.now) (length v.to.now) (sym c.sizes_fit.ensures ∙ c.if-sizes_fit.true) (sym c.rows_fit.ensures ∙ c.if-rows_fit.true)
