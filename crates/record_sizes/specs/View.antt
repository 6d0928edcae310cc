-- What the machine's sizes are in terms of the rules.
use Rattle.rules.specs.Record as rules
use Rattle.record_sizes.specs.declared.Sizes.{Sizes}

abbrev pub view_sizes : Sizes → rules.Sizes
view_sizes s = record { unit = s.unit; full = s.full; full_depth_of = s.full_depth; partial = s.partial; partial_depth = s.partial_depth }
