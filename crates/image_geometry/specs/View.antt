-- The crate's structs and enums as the rules' records and answers.
use Rattle.std.specs.Prelude.{ℕ, List, Result}
use Rattle.rules.specs.Geometry as rules
use Rattle.rules.specs.Geometry.{Layout}
use Rattle.rules.specs.Beside.Shape as sizes
use Rattle.rules.specs.Answers.{Answer}
use Rattle.rules.specs.Refusal.{answer_by}
use Rattle.rules.specs.declared.numbers.Refusal.{Refusal}
use Rattle.image_geometry.specs.declared.Params.{Params}
use Rattle.image_geometry.specs.declared.Spot.{Spot}
use Rattle.image_geometry.specs.declared.Shape.{Shape}
use Rattle.image_geometry.specs.declared.Layout as lent

-- the layout of these numbers and entries
abbrev pub layout_by : Params → List ℕ → Layout
layout_by p es = record { depth = p.depth; width = p.width; entries = es; soft_mask = p.soft_mask; hard = p.hard; unit = p.unit }

-- the same of the struct that holds both
abbrev pub layout_of : lent.Layout → Layout
layout_of l = layout_by l.params l.entries.now

abbrev pub view_spot : Spot → rules.Spot
view_spot s = record { chunk = s.chunk; row = s.row }

abbrev pub shape_by : Shape → sizes.Shape
shape_by s = record {
  full_mems = s.full_mems;
  all_mems = s.all_mems;
  full_depth_of = s.full_depth;
  part_depth_of = s.part_depth;
  columns = s.columns;
  trits = s.trits;
  image_size = s.image_size;
}

abbrev pub measured_of : Result Shape Refusal → Answer sizes.Shape
measured_of = answer_by shape_by
