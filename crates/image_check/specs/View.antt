-- The answers of the test of a layout as the rules' sizes.
use Rattle.std.specs.Prelude.{Option, Some, None, Result, Ok, Err}
use Rattle.std.proofs.Math.Option as rules-option
use Rattle.rules.specs.Beside.Shape as sizes
use Rattle.rules.specs.declared.numbers.Refusal.{Refusal}
use Rattle.image_geometry.specs.declared.Shape.{Shape}
use Rattle.image_geometry.specs.View.{shape_by}

abbrev pub shape_if : Option Shape → rules-option.Option sizes.Shape
shape_if None = rules-option.none
shape_if (Some s) = rules-option.some (shape_by s)

abbrev pub checked_of : Result Shape Refusal → rules-option.Option sizes.Shape
checked_of (Ok s) = rules-option.some (shape_by s)
checked_of (Err e) = rules-option.none
