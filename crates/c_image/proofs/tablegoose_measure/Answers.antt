-- `c_image::tablegoose_measure` meets its contract.
use mathlib.Core.Path.{◌∙◌, ap}
use Rattle.c_image.specs.View.{measured_struct}
use Rattle.c_image.proofs.tablegoose_measure.Goals as goal

pub returns : goal.returns
returns c = c.measured_result.ensures ∙ ap measured_struct c.measure.ensures
