-- The structs of the rules' answers.
use Rattle.rules.specs.Beside.Shape as shapes
use Rattle.rules.specs.Answers.{Answer, Refused, Accepted}
use Rattle.image_geometry.specs.declared.Shape.{Shape}
use Rattle.image_rows.specs.declared.Place.{Place}
use Rattle.c_image.specs.declared.MeasuredResult.{MeasuredResult}
use Rattle.c_image.specs.declared.PlacedResult.{PlacedResult}

-- a shape and a place: the machine's from the rules'
abbrev pub shape_struct : shapes.Shape → Shape
shape_struct s = record {
  full_mems = s.full_mems;
  all_mems = s.all_mems;
  full_depth = s.full_depth_of;
  part_depth = s.part_depth_of;
  columns = s.columns;
  trits = s.trits;
  image_size = s.image_size;
}

abbrev pub place_struct : shapes.Located → Place
place_struct l = record { memory = l.place.memory; row = l.place.row; bit = l.place.bit; index = l.index }

-- the answers: a refused one's values are 0
abbrev pub measured_struct : Answer shapes.Shape → MeasuredResult
measured_struct (Refused n) = record {
  number = n;
  shape = record { full_mems = 0; all_mems = 0; full_depth = 0; part_depth = 0; columns = 0; trits = 0; image_size = 0 };
}
measured_struct (Accepted s) = record { number = 0; shape = shape_struct s }

abbrev pub placed_struct : Answer shapes.Located → PlacedResult
placed_struct (Refused n) = record { number = n; place = record { memory = 0; row = 0; bit = 0; index = 0 } }
placed_struct (Accepted l) = record { number = 0; place = place_struct l }
