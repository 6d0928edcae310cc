-- `record_codec::Head::check_read` meets its contract.
use Rattle.std.proofs.lemmas.Result.{err_from_is_err_and}
use Rattle.rules.proofs.Answers.{else_err}
use Rattle.rules.specs.Record.{size_trits}
use Rattle.rules.specs.Refusals.{read_record_refusal}
use Rattle.record_reader.proofs.Runs.{head_words_lem}
use Rattle.record_codec.proofs.Reading.{head_there, record_good, read_20, read_0}
use mathlib.Core.Path.{sym, ap, ◌∙◌}
use native.Mathlib.Omega.{arith}
use lib.ListN.{length}
use Rattle.record_codec.proofs.Head.check_read.Goals as goal

pub returns-in_err-check_record : goal.returns-in_err-check_record
unfolding read_record_refusal
returns-in_err-check_record c = let p = err_from_is_err_and c.from_residual.result c.from_residual.ensures.1 in rw (p.1, p.2) (else_err _ _ _ c.in_err-check_record.ensures)

pub returns-then-room-trits : goal.returns-then-room-trits
returns-then-room-trits c =
    let b = c.args.self.now.bytes.now in
    let e = sym c.in_ok-check_record.ensures in
    let t = c.trits.ensures.0 ∙ ap size_trits (head_words_lem b (head_there b (length b) (record_good b e).0) c.args.self.now.words c.args.self.now.read) in
    read_20 _ _ e (omega (arith, t))

pub returns : goal.returns
returns c =
    let b = c.args.self.now.bytes.now in
    let e = sym c.in_ok-check_record.ensures in
    let t = c.trits.ensures.0 ∙ ap size_trits (head_words_lem b (head_there b (length b) (record_good b e).0) c.args.self.now.words c.args.self.now.read) in
    read_0 _ _ e (omega (arith, t))
