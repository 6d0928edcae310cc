-- `image_rows::patch_row` meets its contract.
use Rattle.image_rows.specs.Steps.{OnSpot}
use Rattle.image_geometry.specs.declared.Layout as lent
use Rattle.rules.specs.Answers.{filled_with}
use Prim.Native.Nat.{ℕ, ◌<◌}
use mathlib.Core.Path.{◌≡◌, refl, sym, ap, ◌∙◌, subst}
use native.Mathlib.Omega.{arith}
use borrow.Author.Rules.{rules}
use lib.ListN.{length}
use Rattle.rules.specs.Beside.Shape.{handed_on}
use Rattle.rules.specs.Image.{write_row}
use Rattle.rules.specs.Refusal.{number, number_of}
use Rattle.rules.specs.Refusals.{patch_refusal_of}
use Rattle.rules.proofs.Answers.{number_nonzero}
use Rattle.rules.proofs.Demand.{taken}
use Rattle.image_geometry.specs.View.{layout_of}
use Rattle.image_rows.proofs.Sizing.{handed, size_is, shallow, ready, not_passed}
use Rattle.image_rows.proofs.Patching.{number_is, patch_unset, patch_refused, patch-done}
use Rattle.image_rows.proofs.patch_row.Goals as goal

pub returns-in_err-s : goal.returns-in_err-s
returns-in_err-s c =
    let e : number_of c.from_residual.result ≡ number c.in_err-s.field-0.0 = search rules in
    ap (λ (n : ℕ). filled_with n c.args.image.now) (e ∙ ap number c.in_err-s.ensures.number) ∙ patch_unset (handed_on (layout_of c.args.layout)) _ _ (not_passed _ _ c.in_err-s.ensures.shape)

pub returns-in_err-check_patch : goal.returns-in_err-check_patch
returns-in_err-check_patch c =
    let q = layout_of c.args.layout in
    let p = c.args.layout.params in
    let es = c.args.layout.entries.now in
    let e : number_of c.from_residual-in_err-check_patch.result ≡ number c.in_err-check_patch.field-0.0 = search rules in
    let n = e ∙ c.in_err-check_patch.ensures ∙ number_is q _ _ _ _ (size_is p es c.in_ok-s.s c.in_ok-s.ensures.shape) in
    patch_refused _ _ _ q (handed p es c.in_ok-s.s c.in_ok-s.ensures.shape) _ n (λ z. number_nonzero c.in_err-check_patch.field-0.0 (sym e ∙ z))

pub of-rows-requires : goal.of-rows-requires
of-rows-requires c =
    let d = shallow c.args.layout.params c.args.layout.entries.now c.in_ok-s.s c.in_ok-s.ensures.shape in
    (d.0, d.1, record { ready = ready c.args.layout.params c.args.layout.entries.now c.in_ok-s.s c.in_ok-s.ensures.shape _ refl; plain_are = λ i l. absurd (omega arith) })

pub write_row-requires : goal.write_row-requires
write_row-requires c =
    let q = layout_of c.args.layout in
    let p = c.args.layout.params in
    let es = c.args.layout.entries.now in
    let accepted : patch_refusal_of q (record { row = c.args.row; trits = c.args.trits.now; room = length c.args.image.now }) ≡ 0 = sym (c.in_ok-check_patch.ensures ∙ number_is q _ _ _ _ (size_is p es c.in_ok-s.s c.in_ok-s.ensures.shape)) in
    record {
      number_lt_depth = subst (λ (l : lent.Layout). (c.at.result.number < l.params.depth) × OnSpot l.params c.at.result) (sym c.of-rows.ensures) (omega (arith, c.at.ensures.0, (taken _ _ accepted).inside), c.at.ensures.1);
    }

pub returns : goal.returns
returns c =
    let q = layout_of c.args.layout in
    let p = c.args.layout.params in
    let es = c.args.layout.entries.now in
    let accepted : patch_refusal_of q (record { row = c.args.row; trits = c.args.trits.now; room = length c.args.image.now }) ≡ 0 = sym (c.in_ok-check_patch.ensures ∙ number_is q _ _ _ _ (size_is p es c.in_ok-s.s c.in_ok-s.ensures.shape)) in
    patch-done _ _ _ q (handed p es c.in_ok-s.s c.in_ok-s.ensures.shape) _ accepted (c.write_row.ensures ∙ ap (λ (l : lent.Layout). write_row (layout_of l) c.at.result.number c.args.trits.now c.args.image.now) c.of-rows.ensures ∙ ap (λ (n : ℕ). write_row q n c.args.trits.now c.args.image.now) c.at.ensures.0)
