-- `image_geometry::Layout::check_result` meets its contract.
use mathlib.Core.Path.{◌≡◌, sym, ◌∙◌}
use borrow.Author.Rules.{rules}
use Rattle.rules.specs.Refusal.{number, number_of}
use Rattle.rules.proofs.Shaping.{shape_told, shape_not_told, result_1, result_10, result_0}
use Rattle.image_geometry.specs.View.{layout_of, shape_by}
use Rattle.image_geometry.proofs.Layout.check_result.Goals as goal

pub returns-in_err-measure : goal.returns-in_err-measure
returns-in_err-measure c =
    let q = layout_of c.args.self in
    let e : number_of c.from_residual.result ≡ number c.in_err-measure.field-0.0 = search rules in
    let t = shape_not_told q (number c.in_err-measure.field-0.0) c.in_err-measure.ensures in
    e ∙ t.0 ∙ sym (result_1 q t.1)

pub returns-then-is_too_large : goal.returns-then-is_too_large
returns-then-is_too_large c =
    let q = layout_of c.args.self in
    let t = shape_told q (shape_by c.in_ok-measure.field-0) c.in_ok-measure.ensures in
    sym (result_10 q t.0 (sym (c.is_too_large.ensures q t.1) ∙ c.if-is_too_large.true))

pub returns : goal.returns
returns c =
    let q = layout_of c.args.self in
    let t = shape_told q (shape_by c.in_ok-measure.field-0) c.in_ok-measure.ensures in
    sym (result_0 q t.0 (sym (c.is_too_large.ensures q t.1) ∙ c.if-is_too_large.false))
