-- For each case of an answer, document 01's number or the values.
use Rattle.rules.specs.Lister as lister
use Rattle.rules.specs.Answers.{Answer}
use Rattle.record_listing.specs.declared.summary.Summary.{Summary}
use Rattle.std.specs.Prelude.{Result}
use Rattle.rules.specs.declared.numbers.Refusal.{Refusal}
use Rattle.rules.specs.Refusal.{answer_by}

abbrev pub view_summary : Summary → lister.Summary
view_summary y = record { index = y.index; depth = y.depth; known = y.known; ones = y.ones }

abbrev pub view_summarized : Result Summary Refusal → Answer lister.Summary
view_summarized r = answer_by view_summary r
