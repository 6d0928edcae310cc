-- `record_reader::HeadWords::of` meets its contract.
use Rattle.record_reader.proofs.Runs.{from_start}
use Rattle.record_reader.proofs.HeadWords.of.Goals as goal

pub returns : goal.returns
returns c = cc (from_start c.args.bytes.now)
