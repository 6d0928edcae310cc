-- `c_record::tablegoose_memory_summary` meets its contract.
use mathlib.Core.Path.{◌∙◌, ap}
use Rattle.c_record.specs.View.{summary_struct}
use Rattle.c_record.proofs.tablegoose_memory_summary.Goals as goal

pub returns : goal.returns
returns c = c.summary_result.ensures ∙ ap summary_struct c.memory_summary.ensures
