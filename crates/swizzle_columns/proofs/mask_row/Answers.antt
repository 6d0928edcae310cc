-- `swizzle_columns::mask_row` meets its contract.
use Rattle.std.proofs.Common.{◌≡◌, ◌∙◌, refl, sym, length, rules}
use Rattle.swizzle_columns.proofs.Fits.{rows_base_by, mask_not, mask_can}
use Rattle.swizzle_columns.proofs.mask_row.Goals as goal

pub repeat_rows-requires : goal.repeat_rows-requires
repeat_rows-requires c =
    let v = c.args in
    let n : length v.out.now ≡ 4096 = search rules in
    rw n (rows_base_by v.p (length v.entries.now) _ _ refl refl (sym c.rows_fit.ensures ∙ c.if-rows_fit.true))

pub returns-then-rows_fit : goal.returns-then-rows_fit
returns-then-rows_fit c =
    let v = c.args in c.repeat_rows.ensures ∙ sym (mask_can v.p v.entries.now v.v.now v.out.now (sym c.rows_fit.ensures ∙ c.if-rows_fit.true))

pub returns-else-rows_fit : goal.returns-else-rows_fit
returns-else-rows_fit c = let v = c.args in mask_not v.p v.entries.now v.v.now v.out.now (sym c.rows_fit.ensures ∙ c.if-rows_fit.false)
