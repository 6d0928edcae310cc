-- `image_rows::check_rows` meets its contract.
use borrow.Author.Rules.{rules}
use Rattle.rules.specs.Refusal.{number, number_of}
use mathlib.Core.Path.{◌≡◌, ◌∙◌, ap}
use Rattle.rules.specs.Beside.Shape.{handed_on}
use Rattle.image_geometry.specs.View.{layout_of}
use Rattle.image_rows.proofs.Sizing.{handed, size_is, not_passed}
use Rattle.image_rows.proofs.Filling.{fill_refusal_is, refusal_none, refusal_some}
use Rattle.image_rows.proofs.check_rows.Goals as goal

pub returns-in_err-s : goal.returns-in_err-s
returns-in_err-s c =
    let e : number_of c.from_residual.result ≡ number c.in_err-s.field-0.0 = search rules in
    e ∙ ap number c.in_err-s.ensures.number ∙ refusal_none (handed_on (layout_of c.args.layout)) _ _ (not_passed _ _ c.in_err-s.ensures.shape)

pub returns : goal.returns
returns c =
    let q = layout_of c.args.layout in
    let p = c.args.layout.params in
    let es = c.args.layout.entries.now in
    c.check_fill.ensures ∙ fill_refusal_is q _ _ _ (size_is p es c.in_ok-s.s c.in_ok-s.ensures.shape) ∙ refusal_some _ q _ _ (handed p es c.in_ok-s.s c.in_ok-s.ensures.shape)
