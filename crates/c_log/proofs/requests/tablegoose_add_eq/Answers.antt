-- `c_log::requests::tablegoose_add_eq` meets its contract.
use Rattle.c_log.proofs.Left.{left}
use Rattle.c_log.proofs.requests.tablegoose_add_eq.Goals as goal

pub returns : goal.returns
returns c = left _ _ _ _ _ _ c.answer_struct.ensures c.add_eq-r.ensures
