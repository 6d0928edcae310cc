-- `image_state::sizes_by` meets its contract.
use mathlib.Core.Path.{◌≡◌, ap, ◌∙◌}
use borrow.Author.Rules.{rules}
use Rattle.rules.specs.Answers.{Refused}
use Rattle.rules.specs.Refusal.{number}
use Rattle.image_state.specs.View.{sizes_answer}
use Rattle.rules.proofs.GoodLayouts.{some_told}
use Rattle.image_geometry.specs.View.{layout_of}
use Rattle.image_state.proofs.Counting.{counted, not_sized, sized}
use Rattle.image_state.proofs.sizes_by.Goals as goal

pub returns-in_err-s : goal.returns-in_err-s
returns-in_err-s c =
    let e : sizes_answer c.from_residual.result ≡ Refused (number c.in_err-s.field-0.0) = search rules in
    e ∙ ap Refused (ap number c.in_err-s.ensures.number) ∙ not_sized (layout_of c.args.layout) c.in_err-s.ensures.shape

pub layout_sizes-requires : goal.layout_sizes-requires
layout_sizes-requires c =
    let told = some_told (layout_of c.args.layout) _ c.in_ok-s.ensures.shape in
    counted (layout_of c.args.layout) c.in_ok-s.s told.1 told.0

pub returns : goal.returns
returns c =
    let told = some_told (layout_of c.args.layout) _ c.in_ok-s.ensures.shape in
    sized (layout_of c.args.layout) _ told.0 (c.layout_sizes.ensures c.args.layout.entries.now told.1)
