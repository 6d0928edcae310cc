-- `table_readback::behind_end` meets its contract.
use Rattle.std.proofs.lemmas.Result.{err_from_is_err_and}
use Rattle.std.proofs.Common.{Err, sym, ap, ◌∙◌}
use Rattle.table_readback.proofs.Mapped.{passed, failed}
use Rattle.table_readback.specs.declared.Refused.{Refused}
use Rattle.table_readback.specs.declared.Refused.TheVariants as refusals
use Rattle.table_readback.specs.View.{end_as}
use Rattle.table_readback.proofs.Ends.{none_behind, some_behind}
use Rattle.table_readback.specs.Back.{compared_end}
use Rattle.table_read.specs.View.{parsed_of}
use Rattle.table_readback.proofs.behind_end.Goals as goal

pub returns-then-behind-eq0 : goal.returns-then-behind-eq0
returns-then-behind-eq0 c =
    let a = c.args in
    c.shown.ensures ∙ none_behind a.out.now a.line.now a.rows.trits.now a.rows.depth a.rows.width a.behind.now c.if-behind-eq0.true

pub returns-in_err-table : goal.returns-in_err-table
unfolding compared_end parsed_of
returns-in_err-table c =
    let a = c.args in
    let p = err_from_is_err_and c.from_residual.result c.from_residual.ensures.1 in
    let x = failed refusals.Table c.read_table.result c.in_err-table.field-0.0 c.in_err-table.ensures.cases in
    rw (p.1, p.2) (ap (λ (e : Refused). end_as (Err e) a.out.now) x.1.1
    ∙ ap (compared_end a.out.now a.rows.depth a.rows.width a.rows.trits.now) (ap parsed_of (sym x.1.0) ∙ c.read_table.ensures) ∙ some_behind a.out.now a.line.now a.rows.trits.now a.rows.depth a.rows.width a.behind.now c.if-behind-eq0.false)

pub returns : goal.returns
returns c =
    let a = c.args in
    let t = passed c.read_table.result c.in_ok-table.table c.in_ok-table.ensures.cases in
    c.compared.ensures ∙ ap (compared_end a.out.now a.rows.depth a.rows.width a.rows.trits.now) (ap parsed_of (sym t) ∙ c.read_table.ensures) ∙ some_behind a.out.now a.line.now a.rows.trits.now a.rows.depth a.rows.width a.behind.now c.if-behind-eq0.false
