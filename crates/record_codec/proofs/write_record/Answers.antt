-- `record_codec::write_record` meets its contract.
use Rattle.rules.specs.Answers.{write_record_call, filled}
use Rattle.std.proofs.lemmas.Result.{err_from_is_err_and}
use Rattle.rules.proofs.Answers.{answer_err, answer_ok, refused_by}
use Rattle.lists.proofs.Choice.{leaves_refused, leaves_accepted}
use mathlib.Core.Path.{sym, ◌∙◌}
use Rattle.record_codec.proofs.write_record.Goals as goal

pub returns-in_err-check_write : goal.returns-in_err-check_write
unfolding write_record_call filled
returns-in_err-check_write c =
    let e = c.in_err-check_write.ensures in
    let p = err_from_is_err_and c.from_residual.result c.from_residual.ensures.1 in
    (rw (p.1, p.2) (answer_err _ _ _ e), sym (leaves_refused _ _ _ (refused_by _ _ e)))

pub returns : goal.returns
unfolding write_record_call filled
returns c =
    let e = c.in_ok-check_write.ensures in
    (answer_ok _ _ _ e c.put_record.ensures.0, c.put_record.ensures.1 ∙ sym (leaves_accepted _ _ _ (sym e)))
