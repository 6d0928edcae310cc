-- `c_log::merges::tablegoose_add_dedup_dff` meets its contract.
use Rattle.c_log.proofs.Left.{merge_left}
use Rattle.c_log.proofs.merges.tablegoose_add_dedup_dff.Goals as goal

pub returns : goal.returns
returns c = merge_left _ _ _ _ _ _ _ c.answer_struct.ensures (rw c.into.ensures at c.add_dedup_dff-r.ensures)
