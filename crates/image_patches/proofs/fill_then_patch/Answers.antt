-- `image_patches::fill_then_patch` meets its contract.
use mathlib.Core.Path.{◌≡◌, refl, sym, ◌∙◌}
use borrow.Author.Rules.{rules}
use Rattle.rules.specs.Answers.{Filled}
use Rattle.rules.specs.Beside.Shape.{handed_on}
use Rattle.rules.specs.Refusal.{number, number_of}
use Rattle.rules.proofs.Answers.{number_nonzero}
use Rattle.image_geometry.specs.View.{layout_of}
use Rattle.image_patches.specs.Calls.{list_of}
use Rattle.image_patches.proofs.Calling.{lent_is}
use Rattle.image_patches.proofs.Demanding.{rows_refused, both_refused, room_refused, both_done, demanded}
use Rattle.image_patches.proofs.fill_then_patch.Goals as goal

pub returns-in_err-check_rows-clause-buffer_after : goal.returns-in_err-check_rows-clause-buffer_after
returns-in_err-check_rows-clause-buffer_after c =
    let a = c.args in
    let r = c.in_err-check_rows in
    let e : number_of c.from_residual.result ≡ number c.in_err-check_rows.field-0.0 = search rules in
    rows_refused a.numbers.now (handed_on (layout_of a.layout)) a.rows.now a.buffer.now (list_of a.calls) _ (e ∙ r.ensures) (λ z. number_nonzero r.field-0.0 (sym e ∙ z))

pub returns-in-Err-clause-buffer_after : goal.returns-in-Err-clause-buffer_after
returns-in-Err-clause-buffer_after c =
    let a = c.args in
    room_refused a.numbers.now (handed_on (layout_of a.layout)) a.rows.now a.buffer.now (list_of a.calls) _ 0 (lent_is _ a.calls.words.now a.calls.trits.now _ c.in-Err.ensures) (number_nonzero c.in-Err.short) c.in_ok-check_rows.ensures refl

pub returns-in_err-fill_rows-clause-buffer_after : goal.returns-in_err-fill_rows-clause-buffer_after
returns-in_err-fill_rows-clause-buffer_after c =
    let a = c.args in
    let r = c.in_err-fill_rows in
    let e : number_of c.from_residual-in_err-fill_rows.result ≡ number c.in_err-fill_rows.field-0.0 = search rules in
    let told : ◌≡◌ {A = Filled} (record { number = number_of c.from_residual-in_err-fill_rows.result; out = c.fill_rows.new.image }) (record { number = number c.in_err-fill_rows.field-0.0; out = c.fill_rows.new.image }) = λ i. record { number = e i; out = c.fill_rows.new.image } in
    both_refused a.numbers.now (handed_on (layout_of a.layout)) a.rows.now a.buffer.now (list_of a.calls) _ _ (told ∙ r.ensures) (λ z. number_nonzero r.field-0.0 (sym e ∙ z))

pub returns : goal.returns
returns c =
    let a = c.args in
    let q = layout_of a.layout in
    let e = both_done a.numbers.now (handed_on q) a.rows.now a.buffer.now (list_of a.calls) 0 0 _ _ _ (lent_is _ a.calls.words.now a.calls.trits.now 0 c.in_default.ensures) refl c.in_ok-fill_rows.ensures refl c.fill_rows.auto.image c.call_each.ensures.numbers_after c.call_each.ensures.buffer_after in
    record { buffer_after = e; demanded = λ z. demanded q a.numbers.now _ a.rows.now a.buffer.now _ (list_of a.calls) e }
