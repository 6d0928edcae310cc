-- `table_readback::read_back` meets its contract.
use Rattle.std.proofs.lemmas.Result.{err_from_is_err_and}
use Rattle.std.proofs.Common.{Err, refl, sym, ap, ◌∙◌}
use Rattle.table_readback.proofs.Mapped.{passed, failed}
use Rattle.table_readback.specs.declared.Refused.{Refused}
use Rattle.table_readback.specs.declared.Refused.TheVariants as refusals
use Rattle.table_readback.specs.View.{end_as}
use Rattle.table_readback.proofs.Ends.{by_line}
use Rattle.table_readback.specs.Back.{head_end}
use Rattle.table_read.specs.View.{parsed_of}
use Rattle.table_readback.proofs.read_back.Goals as goal

pub returns-in_err-table : goal.returns-in_err-table
unfolding head_end parsed_of
returns-in_err-table c =
    let a = c.args in
    let p = err_from_is_err_and c.from_residual.result c.from_residual.ensures.1 in
    let x = failed refusals.Text c.read_table.result c.in_err-table.field-0.0 c.in_err-table.ensures.cases in
    rw (p.1, p.2) (ap (λ (e : Refused). end_as (Err e) a.out.now) x.1.1
    ∙ by_line a.out.now a.text.now _ _ _ _ _ c.line_end-n.ensures.0 c.part-line.ensures.part c.part-after.ensures.part (ap parsed_of (sym x.1.0) ∙ c.read_table.ensures) refl)

pub returns : goal.returns
returns c =
    let a = c.args in
    let t = passed c.read_table.result c.in_ok-table.table c.in_ok-table.ensures.cases in
    by_line a.out.now a.text.now _ _ _ _ _ c.line_end-n.ensures.0 c.part-line.ensures.part c.part-after.ensures.part (ap parsed_of (sym t) ∙ c.read_table.ensures) c.head_end.ensures
