-- `record_reader::word_at` meets its contract.
use Rattle.std.proofs.Common.{◌≡◌, ◌∙◌, get_or}
use borrow.Author.Rules.{rules}
use Rattle.record_reader.proofs.Places.{word_or}
use Rattle.record_reader.proofs.word_at.Goals as goal

pub returns : goal.returns
returns c =
    let e : c.from.result ≡ get_or c.args.bytes.now c.args.at 0 = search rules in
    c.unwrap_or.ensures ∙ word_or c.args.bytes.now c.args.at _ _ c.word_there-word.ensures e
