-- `record_reader::FirstTrits::of` meets its contract.
use Rattle.record_reader.proofs.Firsts.{from_head}
use Rattle.record_reader.proofs.FirstTrits.of.Goals as goal

pub returns : goal.returns
returns c = from_head c.args.bytes.now c.next_trit-first.result c.next_trit-second.result (cc) (cc)
