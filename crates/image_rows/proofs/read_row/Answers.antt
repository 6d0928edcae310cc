-- `image_rows::read_row` meets its contract.
use Rattle.rules.specs.Image.{index_of}
use Rattle.image_rows.specs.Steps.{take_row}
use Rattle.image_geometry.specs.declared.Layout as lent
use Prim.Native.Nat.{ℕ, ◌<◌}
use Rattle.rules.specs.Answers.{filled_with}
use mathlib.Core.Path.{◌≡◌, refl, sym, ap, ◌∙◌, subst}
use native.Mathlib.Omega.{arith}
use borrow.Author.Rules.{rules}
use lib.ListN.{length}
use Rattle.rules.specs.Beside.Shape.{handed_on}
use Rattle.rules.specs.Beside.Layouts.{read_row_refusal_of}
use Rattle.rules.specs.Refusal.{number, number_of}
use Rattle.rules.proofs.Answers.{number_nonzero}
use Rattle.image_geometry.specs.View.{layout_of}
use Rattle.image_rows.proofs.Sizing.{passed, handed, size_is, shallow, ready, not_passed}
use Rattle.image_rows.proofs.Reading.{read_refusal_is, reads, read_unset, read_refused, read_done}
use Rattle.image_rows.proofs.Taking.{taken_is}
use Rattle.image_rows.proofs.read_row.Goals as goal

pub returns-in_err-s : goal.returns-in_err-s
returns-in_err-s c =
    let e : number_of c.from_residual.result ≡ number c.in_err-s.field-0.0 = search rules in
    ap (λ (n : ℕ). filled_with n c.args.room.now) (e ∙ ap number c.in_err-s.ensures.number) ∙ read_unset (handed_on (layout_of c.args.layout)) _ _ _ (not_passed _ _ c.in_err-s.ensures.shape)

pub returns-in_err-check_read : goal.returns-in_err-check_read
returns-in_err-check_read c =
    let q = layout_of c.args.layout in
    let p = c.args.layout.params in
    let es = c.args.layout.entries.now in
    let e : number_of c.from_residual-in_err-check_read.result ≡ number c.in_err-check_read.field-0.0 = search rules in
    let n = e ∙ c.in_err-check_read.ensures ∙ read_refusal_is q _ _ _ _ (size_is p es c.in_ok-s.s c.in_ok-s.ensures.shape) in
    read_refused _ _ _ _ q (handed p es c.in_ok-s.s c.in_ok-s.ensures.shape) _ n (λ z. number_nonzero c.in_err-check_read.field-0.0 (sym e ∙ z))

pub of-rows-requires : goal.of-rows-requires
of-rows-requires c =
    let d = shallow c.args.layout.params c.args.layout.entries.now c.in_ok-s.s c.in_ok-s.ensures.shape in
    (d.0, d.1, record { ready = ready c.args.layout.params c.args.layout.entries.now c.in_ok-s.s c.in_ok-s.ensures.shape _ refl; plain_are = λ i l. absurd (omega arith) })

pub take_row-requires : goal.take_row-requires
take_row-requires c =
    let q = layout_of c.args.layout in
    let p = c.args.layout.params in
    let es = c.args.layout.entries.now in
    let accepted : read_row_refusal_of q (length c.args.room.now) (length c.args.image.now) c.args.row ≡ 0 = sym (c.in_ok-check_read.ensures ∙ read_refusal_is q _ _ _ _ (size_is p es c.in_ok-s.s c.in_ok-s.ensures.shape)) in
    record { row_lt_depth = subst (λ (l : lent.Layout). c.args.row < l.params.depth) (sym c.of-rows.ensures) (reads q _ _ _ accepted).0 }

pub returns : goal.returns
returns c =
    let q = layout_of c.args.layout in
    let p = c.args.layout.params in
    let es = c.args.layout.entries.now in
    let accepted : read_row_refusal_of q (length c.args.room.now) (length c.args.image.now) c.args.row ≡ 0 = sym (c.in_ok-check_read.ensures ∙ read_refusal_is q _ _ _ _ (size_is p es c.in_ok-s.s c.in_ok-s.ensures.shape)) in
    read_done _ _ _ _ q (handed p es c.in_ok-s.s c.in_ok-s.ensures.shape) _ accepted
    (c.take_row.ensures ∙ ap (λ (l : lent.Layout). take_row (index_of (layout_of l) c.args.row) l.entries.now 0 c.args.image.now c.args.room.now) c.of-rows.ensures ∙ taken_is q (passed p es c.in_ok-s.s c.in_ok-s.ensures.shape) c.args.image.now c.args.room.now c.args.row (reads q _ _ _ accepted).1)
