-- `c_log::requests::tablegoose_replace_value` meets its contract.
use Rattle.c_log.proofs.Left.{left}
use Rattle.c_log.proofs.requests.tablegoose_replace_value.Goals as goal

pub returns : goal.returns
returns c = left _ _ _ _ _ _ c.answer_struct.ensures c.replace_value-r.ensures
