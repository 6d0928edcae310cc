-- `c_log::requests::tablegoose_add_void` meets its contract.
use Rattle.c_log.proofs.Left.{left}
use Rattle.c_log.proofs.requests.tablegoose_add_void.Goals as goal

pub returns : goal.returns
returns c = left _ _ _ _ _ _ c.answer_struct.ensures c.add_void-r.ensures
