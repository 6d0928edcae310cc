-- The crate's structs as the rules' records, and its answer.
use Rattle.std.specs.Prelude.{ℕ, List, length, take, replicate, ltb, Result}
use Rattle.std.proofs.Math.Option.{none}
use Rattle.std.proofs.lemmas.List.Edits.{sets}
use Rattle.lists.specs.Choice.{when◌then◌else◌}
use Rattle.rules.specs.Limits.{max_row}
use Rattle.rules.specs.Geometry.{Layout}
use Rattle.rules.specs.Image as rules
use Rattle.rules.specs.Beside.Shape.{handed_on}
use Rattle.rules.specs.Record as record-rules
use Rattle.rules.specs.Answers.{Answer}
use Rattle.rules.specs.Refusal.{answer_by}
use Rattle.rules.specs.declared.numbers.Refusal.{Refusal}
use Rattle.record_sizes.specs.declared.Sizes.{Sizes}
use Rattle.record_sizes.specs.View.{view_sizes}
use Rattle.image_geometry.specs.declared.Params.{Params}
use Rattle.image_geometry.specs.View.{layout_by}
use Rattle.image_state.specs.declared.Laid.{Laid}

abbrev pub params_of : Laid → Params
params_of l = record { depth = l.depth; width = l.width; soft_mask = l.soft_mask; hard = l.hard; unit = l.unit }

-- the layout of the entries in use
abbrev pub view_of : Laid → Layout
view_of l = layout_by (params_of l) (take l.len l.entries)

-- the numbers that the calls go by: where the length passes the array the unit is 0, which no layout has
abbrev pub lent_unit : Laid → ℕ
lent_unit l = when ltb max_row l.len then 0 else l.unit

abbrev pub lent_params : Laid → Params
lent_params l = record { depth = l.depth; width = l.width; soft_mask = l.soft_mask; hard = l.hard; unit = lent_unit l }

-- a length past the array, and a layout that no accepted swizzle has, are no state
unfoldable pub laid_of : Laid → rules.Laid
laid_of l = when ltb max_row l.len then none else handed_on (view_of l)

-- the struct before any swizzle, and that of a layout
abbrev pub unset_laid : Laid
unset_laid = record { depth = 0; width = 0; soft_mask = 0; hard = 0; unit = 0; len = 0; entries = replicate max_row 0 }

unfoldable pub laid_by : Params → List ℕ → Laid
laid_by p es =
    when ltb max_row (length es) then unset_laid
    else record {
      depth = p.depth;
      width = p.width;
      soft_mask = p.soft_mask;
      hard = p.hard;
      unit = p.unit;
      len = length es;
      entries = sets (replicate max_row 0) 0 es;
    }

-- the record's sizes, or a number
abbrev pub sizes_answer : Result Sizes Refusal → Answer record-rules.Sizes
sizes_answer = answer_by view_sizes
