-- `c_record::tablegoose_write_record` meets its contract.
use mathlib.Core.Path.{◌∙◌, ap}
use Rattle.c_net.specs.View.{count_struct}
use Rattle.c_record.proofs.tablegoose_write_record.Goals as goal

pub returns : goal.returns
returns c = (c.count_result.ensures ∙ ap count_struct c.write_record.ensures.0, c.write_record.ensures.1)
