-- `table_readback::head_end` meets its contract.
use Rattle.std.proofs.lemmas.Result.{err_from_is_err_and}
use Rattle.std.proofs.Common.{Err, refl, sym, ap, ◌∙◌}
use Rattle.table_readback.proofs.Mapped.{passed, failed}
use Rattle.table_readback.specs.declared.Refused.{Refused}
use Rattle.table_readback.specs.declared.Refused.TheVariants as refusals
use Rattle.table_readback.specs.View.{end_as}
use Rattle.table_readback.proofs.Ends.{good_head}
use Rattle.image_geometry.specs.View.{layout_of}
use Rattle.image_state.specs.View.{laid_of, sizes_answer}
use Rattle.table_readback.specs.Back.{record_end}
use Rattle.table_readback.proofs.head_end.Goals as goal

pub record_end-requires : goal.record_end-requires
record_end-requires c =
    let s = passed c.sizes.result c.in_ok-sizes.sizes c.in_ok-sizes.ensures.cases in
    c.sizes.ensures.z_value _ (ap sizes_answer s)

pub returns-in_err-sizes : goal.returns-in_err-sizes
unfolding record_end
returns-in_err-sizes c =
    let a = c.args in
    let p = err_from_is_err_and c.from_residual.result c.from_residual.ensures.1 in
    let x = failed refusals.Call c.sizes.result c.in_err-sizes.field-0.0 c.in_err-sizes.ensures.cases in
    rw (p.1, p.2) (ap (λ (e : Refused). end_as (Err e) a.out.now) x.1.1
    ∙ good_head a.out.now a.line.now a.after.now a.table.now _ (layout_of c.layout-layout.result) (laid_of c.laid_out.result) _ c.layout-layout.ensures c.laid_out.ensures.result_value (ap sizes_answer (sym x.1.0) ∙ c.sizes.ensures.result_value) refl)

pub returns : goal.returns
returns c =
    let a = c.args in
    let s = passed c.sizes.result c.in_ok-sizes.sizes c.in_ok-sizes.ensures.cases in
    good_head a.out.now a.line.now a.after.now a.table.now _ (layout_of c.layout-layout.result) (laid_of c.laid_out.result) _ c.layout-layout.ensures c.laid_out.ensures.result_value (ap sizes_answer (sym s) ∙ c.sizes.ensures.result_value) c.record_end.ensures
