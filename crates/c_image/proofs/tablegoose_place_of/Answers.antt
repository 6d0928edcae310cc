-- `c_image::tablegoose_place_of` meets its contract.
use mathlib.Core.Path.{◌∙◌, ap}
use Rattle.c_image.specs.View.{placed_struct}
use Rattle.c_image.proofs.tablegoose_place_of.Goals as goal

pub returns : goal.returns
returns c = c.placed_result.ensures ∙ ap placed_struct c.place_of.ensures
