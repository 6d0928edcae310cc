-- `table_read::read_table` meets its contract.
use Rattle.table_read.proofs.Tables.{head_short}
use Rattle.table_read.specs.Table.{head_table, parse_table}
use Rattle.table_read.specs.View.{parsed_of}
use borrow.Author.Tests.{lt-ltb, le-ltb}
use mathlib.Core.Path.{sym, ap, ◌∙◌}
use Rattle.table_read.proofs.read_table.Goals as goal

pub returns-then-text-gt-MAX_TEXT : goal.returns-then-text-gt-MAX_TEXT
unfolding parse_table parsed_of
returns-then-text-gt-MAX_TEXT c = rw (lt-ltb _ _ c.if-text-gt-MAX_TEXT.true, c.in_header.ensures)

pub returns : goal.returns
unfolding parse_table
returns c =
    rw (le-ltb _ _ c.if-text-gt-MAX_TEXT.false) (c.head_table.ensures ∙ ap head_table (sym c.read_head-end.ensures ∙ head_short _ _ c.if-text-gt-MAX_TEXT.false))
