-- `record_codec::record_header` meets its contract.
use Rattle.rules.specs.Answers.{header_call}
use Rattle.std.proofs.lemmas.Result.{err_from_is_err_and}
use Rattle.rules.proofs.Answers.{answer_err, answer_ok}
use Rattle.record_reader.proofs.Runs.{head_words_lem}
use Rattle.record_codec.proofs.Reading.{head_there, header_head}
use mathlib.Core.Path.{sym, ◌∙◌}
use Rattle.record_codec.proofs.record_header.Goals as goal

pub returns-in_err-check : goal.returns-in_err-check
unfolding header_call
returns-in_err-check c =
    let p = err_from_is_err_and c.from_residual.result c.from_residual.ensures.1 in
    rw (p.1, p.2) (answer_err _ _ _ (rw c.of-head.ensures at c.in_err-check.ensures))

pub returns : goal.returns
unfolding header_call
returns c =
    let b = c.args.first.now in
    let e = rw c.of-head.ensures at c.in_ok-check.ensures in
    let w = rw c.of-head.ensures at c.of-head.result.read in
    let h = head_there b c.args.total (header_head b c.args.total (sym e)) in
    answer_ok _ _ _ e (c.sizes.ensures.0 ∙ head_words_lem b h c.of-head.result.words w)
