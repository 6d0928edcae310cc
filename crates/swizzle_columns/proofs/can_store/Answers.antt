-- `swizzle_columns::can_store` meets its contract.
use Rattle.std.proofs.Common.{◌∙◌, sym, arith}
use Rattle.swizzle_columns.proofs.Fits.{bounded, len_low}
use Rattle.swizzle_columns.proofs.can_store.Goals as goal

pub overflow_mul-p : goal.overflow_mul-p
overflow_mul-p c = let v = c.args in omega (arith, bounded v.p.olds v.len 4294967295 256 (omega arith) (len_low v.p v.len (sym c.rows_fit-rows.ensures ∙ c.if-rows.true.1)))
