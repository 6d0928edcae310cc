-- `record_reader::Reader::next_head` meets its contract.
use Rattle.record_reader.specs.Reading.{words_from, place_after_head}
use Rattle.record_reader.proofs.Reader.next_head.Goals as goal

pub returns : goal.returns
unfolding words_from place_after_head
returns c = (cc, cc, cc)
