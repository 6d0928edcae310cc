-- `c_log::merges::tablegoose_add_bitwise_mux` meets its contract.
use Rattle.c_log.proofs.Left.{merge_left}
use Rattle.c_log.proofs.merges.tablegoose_add_bitwise_mux.Goals as goal

pub returns : goal.returns
returns c = merge_left _ _ _ _ _ _ _ c.answer_struct.ensures c.add_bitwise_mux-r.ensures
