-- `table_record::record_of` meets its contract.
use Rattle.std.proofs.lemmas.Result.{err_from_is_err_and}
use Rattle.rules.proofs.Answers.{number_nonzero}
use Rattle.table_record.proofs.Records.{not_sized, sized, not_filled, is_filled}
use Rattle.image_state.specs.View.{laid_of}
use Rattle.image_geometry.specs.View.{layout_of}
use Rattle.std.proofs.Common.{refl, sym, ◌∙◌}
use Rattle.table_record.proofs.record_of.Goals as goal

pub returns-in_err-fill : goal.returns-in_err-fill
returns-in_err-fill c =
    let a = c.args in
    let p = err_from_is_err_and c.from_residual.result c.from_residual.ensures.1 in
    rw (p.1, p.2) (not_filled a.out.now a.rows.now (layout_of a.layout) (laid_of c.laid_out-laid.result) c.laid_out-laid.ensures.result_value _ _ c.in_err-fill.ensures (number_nonzero _))

pub returns-in_err-sizes : goal.returns-in_err-sizes
returns-in_err-sizes c =
    let a = c.args in
    let p = err_from_is_err_and c.from_residual-in_err-sizes.result c.from_residual-in_err-sizes.ensures.1 in
    rw (p.1, p.2) (not_sized a.out.now c.fill.new.image _ _ (sym c.in_err-sizes.ensures.result_value)
    ∙ is_filled a.out.now a.rows.now (layout_of a.layout) (laid_of c.laid_out-laid.result) c.laid_out-laid.ensures.result_value _ _ c.in_ok-fill.ensures refl _ refl)

pub returns : goal.returns
returns c =
    let a = c.args in
    sized a.out.now c.fill.new.image _ _ _ _ (sym c.in_ok-sizes.ensures.result_value) c.write_record.ensures.0 c.write_record.ensures.1
    ∙ is_filled a.out.now a.rows.now (layout_of a.layout) (laid_of c.laid_out-laid.result) c.laid_out-laid.ensures.result_value _ _ c.in_ok-fill.ensures refl _ refl
