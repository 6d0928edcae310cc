-- `image_patches::patch_each` meets its contract.
use mathlib.Core.Path.{◌≡◌, refl, sym, ◌∙◌}
use borrow.Author.Rules.{rules}
use Rattle.rules.specs.Beside.Shape.{handed_on}
use Rattle.rules.specs.Refusal.{number, number_of}
use Rattle.rules.proofs.Answers.{number_nonzero}
use Rattle.image_geometry.specs.View.{layout_of}
use Rattle.image_patches.specs.Calls.{list_of}
use Rattle.image_patches.proofs.Calling.{lent_is, patches_refused, patches_done}
use Rattle.image_patches.proofs.patch_each.Goals as goal

pub returns-in_err-check_numbers : goal.returns-in_err-check_numbers
returns-in_err-check_numbers c =
    let a = c.args in
    let r = c.in_err-check_numbers in
    let e : number_of c.from_residual.result ≡ number c.in_err-check_numbers.field-0.0 = search rules in
    patches_refused a.numbers.now (handed_on (layout_of a.layout)) (list_of a.calls) a.buffer.now _ (lent_is _ a.calls.words.now a.calls.trits.now _ (e ∙ r.ensures)) (λ z. number_nonzero r.field-0.0 (sym e ∙ z))

pub returns : goal.returns
returns c =
    let a = c.args in
    patches_done a.numbers.now (handed_on (layout_of a.layout)) (list_of a.calls) a.buffer.now 0 _ _ (lent_is _ a.calls.words.now a.calls.trits.now 0 c.in_ok-check_numbers.ensures) refl c.call_each.ensures.numbers_after c.call_each.ensures.buffer_after
