-- `c_log::requests::tablegoose_add_and` meets its contract.
use Rattle.c_log.proofs.Left.{left}
use Rattle.c_log.proofs.requests.tablegoose_add_and.Goals as goal

pub returns : goal.returns
returns c = left _ _ _ _ _ _ c.answer_struct.ensures c.add_and-r.ensures
