-- `image_rows::fill_rows` meets its contract.
use Rattle.rules.specs.Image.{write_rows}
use Rattle.image_geometry.specs.declared.Layout as lent
use Prim.Native.Nat.{ℕ, ◌*◌}
use Rattle.rules.specs.Answers.{filled_with}
use mathlib.Core.Path.{◌≡◌, refl, sym, ap, ◌∙◌, subst}
use borrow.Author.Rules.{rules}
use lib.ListN.{length}
use Rattle.rules.specs.Beside.Shape.{handed_on}
use Rattle.rules.specs.Beside.Layouts.{fill_refusal_of}
use Rattle.rules.specs.Refusal.{number, number_of}
use Rattle.rules.proofs.Answers.{number_nonzero}
use Rattle.rules.proofs.GoodLayouts.{good_accepted}
use Rattle.image_geometry.specs.View.{layout_of}
use Rattle.image_rows.proofs.Sizing.{passed, handed, size_is, shallow, ready, not_passed}
use Rattle.image_rows.proofs.Filling.{fill_is, fill_refusal_is, fills, fill_unset, fill_refused, fill_done}
use Rattle.image_rows.proofs.fill_rows.Goals as goal

pub returns-in_err-s : goal.returns-in_err-s
returns-in_err-s c =
    let e : number_of c.from_residual.result ≡ number c.in_err-s.field-0.0 = search rules in
    ap (λ (n : ℕ). filled_with n c.args.image.now) (e ∙ ap number c.in_err-s.ensures.number) ∙ fill_unset (handed_on (layout_of c.args.layout)) _ _ (not_passed _ _ c.in_err-s.ensures.shape)

pub returns-in_err-check_fill : goal.returns-in_err-check_fill
returns-in_err-check_fill c =
    let q = layout_of c.args.layout in
    let p = c.args.layout.params in
    let es = c.args.layout.entries.now in
    let e : number_of c.from_residual-in_err-check_fill.result ≡ number c.in_err-check_fill.field-0.0 = search rules in
    let n = e ∙ c.in_err-check_fill.ensures ∙ fill_refusal_is q _ _ _ (size_is p es c.in_ok-s.s c.in_ok-s.ensures.shape) in
    fill_refused _ _ _ q (handed p es c.in_ok-s.s c.in_ok-s.ensures.shape) _ n (λ z. number_nonzero c.in_err-check_fill.field-0.0 (sym e ∙ z))

pub of-lines-requires : goal.of-lines-requires
of-lines-requires c =
    let d = shallow c.args.layout.params c.args.layout.entries.now c.in_ok-s.s c.in_ok-s.ensures.shape in
    (d.0, d.1, record { ready = ready c.args.layout.params c.args.layout.entries.now c.in_ok-s.s c.in_ok-s.ensures.shape _ refl; plain_are = c.plain_entries.ensures })

pub write_rows-requires : goal.write_rows-requires
write_rows-requires c =
    let q = layout_of c.args.layout in
    let p = c.args.layout.params in
    let es = c.args.layout.entries.now in
    let accepted : fill_refusal_of q (length c.args.image.now) c.args.rows.now ≡ 0 = sym (c.in_ok-check_fill.ensures ∙ fill_refusal_is q _ _ _ (size_is p es c.in_ok-s.s c.in_ok-s.ensures.shape)) in
    record {
      rows_len = subst (λ (l : lent.Layout). length c.args.rows.now ≡ l.params.depth * l.params.width) (sym c.of-lines.ensures) (fills q _ _ accepted).0;
    }

pub returns : goal.returns
returns c =
    let q = layout_of c.args.layout in
    let p = c.args.layout.params in
    let es = c.args.layout.entries.now in
    let accepted : fill_refusal_of q (length c.args.image.now) c.args.rows.now ≡ 0 = sym (c.in_ok-check_fill.ensures ∙ fill_refusal_is q _ _ _ (size_is p es c.in_ok-s.s c.in_ok-s.ensures.shape)) in
    fill_done _ _ _ q (handed p es c.in_ok-s.s c.in_ok-s.ensures.shape) _ accepted
    (fill_is q (good_accepted q (passed p es c.in_ok-s.s c.in_ok-s.ensures.shape)) c.args.rows.now c.args.image.now _ _ _
    (size_is p es c.in_ok-s.s c.in_ok-s.ensures.shape) (fills q _ _ accepted).1 c.fill.ensures (c.write_rows.ensures ∙ ap (λ (l : lent.Layout). write_rows (layout_of l) c.args.rows.now l.params.depth c.fill.new.to) c.of-lines.ensures))
