-- `record_codec::Head::check_record` meets its contract.
use Rattle.std.proofs.lemmas.Result.{err_from_is_err_and}
use Rattle.rules.proofs.Answers.{else_err}
use Rattle.rules.specs.Record.{size_trits}
use Rattle.rules.specs.Refusals.{record_number}
use Rattle.record_reader.proofs.Runs.{head_words_lem}
use Rattle.record_codec.proofs.Reading.{head_there, head_good, record_18, record_0}
use mathlib.Core.Path.{sym, ap, ◌∙◌}
use lib.ListN.{length}
use Rattle.record_codec.proofs.Head.check_record.Goals as goal

pub returns-in_err-check : goal.returns-in_err-check
unfolding record_number
returns-in_err-check c = let p = err_from_is_err_and c.from_residual.result c.from_residual.ensures.1 in rw (p.1, p.2) (else_err _ _ _ c.in_err-check.ensures)

pub bad_bits-requires : goal.bad_bits-requires
bad_bits-requires c =
    let b = c.args.self.now.bytes.now in
    let g = (head_good b (sym c.in_ok-check.ensures)).0 in
    let w = head_words_lem b (head_there b (length b) g) c.args.self.now.words c.args.self.now.read in
    (g, c.trits.ensures.0 ∙ ap size_trits w, c.trits.ensures.1)

pub returns-then-bad_bits : goal.returns-then-bad_bits
returns-then-bad_bits c = record_18 _ (sym c.in_ok-check.ensures) (sym c.bad_bits.ensures ∙ c.if-bad_bits.true)

pub returns : goal.returns
returns c = record_0 _ (sym c.in_ok-check.ensures) (sym c.bad_bits.ensures ∙ c.if-bad_bits.false)
