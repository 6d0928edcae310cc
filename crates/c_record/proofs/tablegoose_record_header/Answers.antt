-- `c_record::tablegoose_record_header` meets its contract.
use mathlib.Core.Path.{◌∙◌, ap}
use Rattle.c_record.specs.View.{head_struct}
use Rattle.c_record.proofs.tablegoose_record_header.Goals as goal

pub returns : goal.returns
returns c = c.head_result.ensures ∙ ap head_struct c.record_header.ensures
