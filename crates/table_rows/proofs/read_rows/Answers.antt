-- `table_rows::read_rows` meets its contract.
use Prim.Native.Nat.{ℕ}
use borrow.Author.Rules.{rules}
use Rattle.rules.specs.Refusal.{number, number_of}
use Rattle.rules.specs.Answers.{filled_with}
use Rattle.table_rows.proofs.Reading.{rows_refusal_is, rows_read_lem, rows_unset, rows_refused, rows_done}
use Rattle.std.proofs.lemmas.Result.{err_from_is_err_and}
use Rattle.rules.proofs.Answers.{number_nonzero}
use Rattle.image_rows.proofs.Sizing.{passed, handed, size_is, not_passed}
use Rattle.image_geometry.specs.View.{layout_of, shape_by}
use Rattle.rules.specs.Beside.Shape.{handed_on, laid_shape}
use mathlib.Core.Option.{some}
use mathlib.Core.Path.{◌≡◌, sym, ap, ◌∙◌}
use Rattle.table_rows.proofs.read_rows.Goals as goal

pub returns-in_err-s : goal.returns-in_err-s
returns-in_err-s c =
    let a = c.args in
    let e : number_of c.from_residual.result ≡ number c.in_err-s.field-0.0 = search rules in
    ap (λ (n : ℕ). filled_with n a.room.now) (e ∙ ap number c.in_err-s.ensures.number)
    ∙ rows_unset (handed_on (layout_of a.layout)) _ _ (not_passed a.layout.params a.layout.entries.now c.in_err-s.ensures.shape)

pub returns-in_err-check_room : goal.returns-in_err-check_room
returns-in_err-check_room c =
    let told : some (shape_by c.in_ok-s.s) ≡ laid_shape (layout_of c.args.layout) = c.in_ok-s.ensures.shape in
    let p = err_from_is_err_and c.from_residual-in_err-check_room.result c.from_residual-in_err-check_room.ensures.1 in
    rw (p.1, p.2) (rows_refused _ _ _ (layout_of c.args.layout) (handed _ _ _ told) _ (c.in_err-check_room.ensures ∙ rows_refusal_is (layout_of c.args.layout) _ _ _ (size_is _ _ _ told)) (number_nonzero _))

pub put_all-requires : goal.put_all-requires
put_all-requires c =
    let told : some (shape_by c.in_ok-s.s) ≡ laid_shape (layout_of c.args.layout) = c.in_ok-s.ensures.shape in
    (passed _ _ _ told, rows_read_lem (layout_of c.args.layout) _ _ (sym (c.in_ok-check_room.ensures ∙ rows_refusal_is (layout_of c.args.layout) _ _ _ (size_is _ _ _ told))))

pub returns : goal.returns
returns c =
    let told : some (shape_by c.in_ok-s.s) ≡ laid_shape (layout_of c.args.layout) = c.in_ok-s.ensures.shape in
    rows_done _ _ _ (layout_of c.args.layout) (handed _ _ _ told) _ (sym (c.in_ok-check_room.ensures ∙ rows_refusal_is (layout_of c.args.layout) _ _ _ (size_is _ _ _ told))) c.put_all.ensures
