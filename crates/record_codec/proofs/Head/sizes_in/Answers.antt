-- `record_codec::Head::sizes_in` meets its contract.
use Rattle.std.proofs.lemmas.Result.{err_from_is_err_and}
use Rattle.rules.proofs.Answers.{answer_err, answer_ok}
use Rattle.record_reader.proofs.Runs.{head_words_lem}
use Rattle.record_codec.proofs.Reading.{head_there, record_good, read_good}
use mathlib.Core.Path.{sym, ◌∙◌}
use lib.ListN.{length}
use Rattle.record_codec.proofs.Head.sizes_in.Goals as goal

pub returns-in_err-check_read : goal.returns-in_err-check_read
returns-in_err-check_read c = let p = err_from_is_err_and c.from_residual.result c.from_residual.ensures.1 in rw (p.1, p.2) (answer_err _ _ _ c.in_err-check_read.ensures)

pub returns : goal.returns
returns c =
    let b = c.args.self.now.bytes.now in
    let e = c.in_ok-check_read.ensures in
    let h = head_there b (length b) (record_good b (read_good b c.args.room (sym e))).0 in
    answer_ok _ _ _ e (c.sizes.ensures.0 ∙ head_words_lem b h c.args.self.now.words c.args.self.now.read)
