-- `table_read::Header::with_rows` meets its contract.
use Rattle.table_read.proofs.Tables.{rows_short, rows_refused, rows_given}
use Rattle.table_read.specs.View.{layout_given, parsed_of}
use Rattle.table_read.specs.Table.{rows_table}
use Rattle.std.proofs.Common.{sym, ◌∙◌}
use Rattle.table_read.proofs.Header.with_rows.Goals as goal

pub returns-in-Refused : goal.returns-in-Refused
unfolding parsed_of rows_table
returns-in-Refused c =
    let a = c.args in
    rows_refused (layout_given a.self.now.params a.self.now.entries) _ a.text.bytes.now a.at _ _ _ _ _ (sym (rows_short _ _ _ _ _ c.requires a.text.short) ∙ c.read_rows-end.ensures) c.in-Refused.is

pub returns-in_default : goal.returns-in_default
unfolding parsed_of rows_table
returns-in_default c =
    let a = c.args in
    rows_given (layout_given a.self.now.params a.self.now.entries) _ a.text.bytes.now a.at _ _ (sym (rows_short _ _ _ _ _ c.requires a.text.short) ∙ c.read_rows-end.ensures) c.in_default.not-Refused
