-- `record_listing::summary::memory_summary` meets its contract.
use Rattle.std.proofs.lemmas.Result.{err_from_is_err_and}
use Rattle.rules.proofs.Answers.{answer_err, answer_ok}
use Rattle.rules.specs.Answers.{summary_call}
use mathlib.Core.Path.{sym}
use Rattle.record_listing.proofs.summary.memory_summary.Goals as goal

pub returns-in_err-check_summary : goal.returns-in_err-check_summary
unfolding summary_call
returns-in_err-check_summary c =
    let p = err_from_is_err_and c.from_residual.result c.from_residual.ensures.1 in
    rw (p.1, p.2) (answer_err _ _ _ c.in_err-check_summary.ensures)

pub summary_at-requires : goal.summary_at-requires
summary_at-requires c = sym c.in_ok-check_summary.ensures

pub returns : goal.returns
unfolding summary_call
returns c = answer_ok _ _ _ c.in_ok-check_summary.ensures c.summary_at.ensures
