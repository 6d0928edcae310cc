-- The structs of the rules' answers; a refused one's values are 0.
use Rattle.rules.specs.Record as rules
use Rattle.rules.specs.Lister as lister
use Rattle.rules.specs.Answers.{Answer, Refused, Accepted}
use Rattle.record_sizes.specs.declared.Sizes.{Sizes}
use Rattle.record_listing.specs.declared.summary.Summary.{Summary}
use Rattle.c_record.specs.declared.Head.{Head}
use Rattle.c_record.specs.declared.SummaryResult.{SummaryResult}

-- sizes and a summary: the machine's from the rules'
abbrev pub sizes_struct : rules.Sizes → Sizes
sizes_struct z = record { unit = z.unit; full = z.full; full_depth = z.full_depth_of; partial = z.partial; partial_depth = z.partial_depth }

abbrev pub summary_fields : lister.Summary → Summary
summary_fields y = record { index = y.index; depth = y.depth; known = y.known; ones = y.ones }

abbrev pub head_struct : Answer rules.Sizes → Head
head_struct (Refused n) = record { number = n; sizes = record { unit = 0; full = 0; full_depth = 0; partial = 0; partial_depth = 0 } }
head_struct (Accepted z) = record { number = 0; sizes = sizes_struct z }

abbrev pub summary_struct : Answer lister.Summary → SummaryResult
summary_struct (Refused n) = record { number = n; summary = record { index = 0; depth = 0; known = 0; ones = 0 } }
summary_struct (Accepted y) = record { number = 0; summary = summary_fields y }
