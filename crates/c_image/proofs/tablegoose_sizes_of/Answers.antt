-- `c_image::tablegoose_sizes_of` meets its contract.
use mathlib.Core.Path.{◌∙◌, ap}
use Rattle.c_record.specs.View.{head_struct}
use Rattle.c_image.proofs.tablegoose_sizes_of.Goals as goal

pub returns : goal.returns
returns c = c.head_result.ensures ∙ ap head_struct c.sizes.ensures.result_value
