-- `table_read::Header::table` meets its contract.
use Rattle.table_read.proofs.Tables.{layout_refused}
use Rattle.table_read.specs.Table.{layout_table}
use Rattle.table_read.specs.View.{layout_given, parsed_of}
use Rattle.rules.proofs.GoodLayouts.{good_small}
use Rattle.std.proofs.Common.{sym, ◌∙◌}
use Rattle.table_read.proofs.Header.table.Goals as goal

pub returns-then-is_bad : goal.returns-then-is_bad
unfolding parsed_of
returns-then-is_bad c = rw c.in_header.ensures (sym (layout_refused (layout_given c.args.self.now.params c.args.self.now.entries) _ (sym c.is_bad.ensures ∙ c.if-is_bad.true)))

pub with_rows-requires : goal.with_rows-requires
with_rows-requires c = (good_small (layout_given c.args.self.now.params c.args.self.now.entries) (sym c.is_bad.ensures ∙ c.if-is_bad.false)).width_max

pub returns : goal.returns
unfolding layout_table
returns c = rw (sym c.is_bad.ensures ∙ c.if-is_bad.false) c.with_rows.ensures
