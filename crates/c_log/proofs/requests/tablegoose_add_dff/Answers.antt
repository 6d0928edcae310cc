-- `c_log::requests::tablegoose_add_dff` meets its contract.
use Rattle.c_log.proofs.Left.{left}
use Rattle.c_log.proofs.requests.tablegoose_add_dff.Goals as goal

pub returns : goal.returns
returns c = left _ _ _ _ _ _ c.answer_struct.ensures (rw c.into.ensures at c.add_dff-r.ensures)
