-- `table_readback::compared` meets its contract.
use Rattle.table_readback.proofs.Ends.{other_depth, other_width, same_table}
use Rattle.table_readback.specs.Back.{text_end}
use Rattle.table_differ.specs.Differ.{diff_text}
use Rattle.std.proofs.Common.{List, ℕ, ap, ◌∙◌}
use Rattle.table_readback.proofs.compared.Goals as goal

pub returns-then-table-rows : goal.returns-then-table-rows
returns-then-table-rows c = let a = c.args in other_depth a.out.now a.rows.trits.now a.rows.depth a.rows.width a.table.now c.if-table-rows.true

pub returns-then-table-rows-2 : goal.returns-then-table-rows-2
returns-then-table-rows-2 c = let a = c.args in other_width a.out.now a.rows.trits.now a.rows.depth a.rows.width a.table.now c.if-table-rows.false c.if-table-rows-2.true

pub returns : goal.returns
returns c =
    let a = c.args in
    same_table a.out.now a.rows.trits.now a.rows.depth a.rows.width a.table.now _ c.if-table-rows.false c.if-table-rows-2.false
    (c.differences.ensures ∙ ap (λ (l : List ℕ). text_end a.out.now (diff_text a.rows.depth a.rows.width a.rows.trits.now l)) c.trits.ensures)
