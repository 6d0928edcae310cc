-- `table_record::split_text` meets its contract.
use Rattle.std.proofs.Common.{Result, ap, sym, ◌∙◌}
use Rattle.std.proofs.lemmas.Result.{err_from_is_err_and}
use Rattle.table_read.specs.View.{parsed_of}
use Rattle.table_read.specs.declared.Table.{Table}
use Rattle.table_read.specs.declared.Fault.{Fault}
use Rattle.table_record.specs.Split.{split_by, split_call}
use Rattle.table_record.proofs.Mapped.{faulted, read}
use Rattle.table_record.proofs.split_text.Goals as goal

pub returns-in_err-table : goal.returns-in_err-table
returns-in_err-table c =
    let p = err_from_is_err_and c.from_residual.result c.from_residual.ensures.1 in
    rw (p.1, p.2) (faulted c.args.out.now c.args.text.now c.read_table.result c.in_err-table.field-0.0 c.read_table.ensures c.in_err-table.ensures.cases)

pub returns : goal.returns
unfolding split_call
returns c =
    c.split_table.ensures ∙ ap (λ (r : Result Table Fault). split_by c.args.out.now (parsed_of r)) (sym (read c.read_table.result c.in_ok-table.table c.in_ok-table.ensures.cases)) ∙ ap (split_by c.args.out.now) c.read_table.ensures
