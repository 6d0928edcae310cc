-- The place of an entry as the rules' record.
use Rattle.std.specs.Prelude.{Result}
use Rattle.rules.specs.Beside.Shape.{Located}
use Rattle.rules.specs.Answers.{Answer}
use Rattle.rules.specs.Refusal.{answer_by}
use Rattle.rules.specs.declared.numbers.Refusal.{Refusal}
use Rattle.image_rows.specs.declared.Place.{Place}

abbrev pub located_of : Place → Located
located_of p = record { place = record { memory = p.memory; row = p.row; bit = p.bit }; index = p.index }

abbrev pub placed_of : Result Place Refusal → Answer Located
placed_of = answer_by located_of
