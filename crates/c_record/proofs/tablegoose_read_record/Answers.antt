-- `c_record::tablegoose_read_record` meets its contract.
use mathlib.Core.Path.{◌∙◌, ap}
use Rattle.c_record.specs.View.{head_struct}
use Rattle.c_record.proofs.tablegoose_read_record.Goals as goal

pub returns : goal.returns
returns c = (c.head_result.ensures ∙ ap head_struct c.read_record.ensures.0, c.read_record.ensures.1)
