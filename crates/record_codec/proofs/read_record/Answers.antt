-- `record_codec::read_record` meets its contract.
use Rattle.record_reader.proofs.Runs.{from_start}
use Rattle.record_codec.proofs.Whole.{read_all}
use Rattle.record_codec.proofs.read_record.Goals as goal

pub invariant_of-head : goal.invariant_of-head
invariant_of-head c = record { read = cc (from_start c.args.bytes.now) }

pub returns : goal.returns
returns c =
    read_all c.args.image.now c.args.bytes.now c.sizes_in-sizes.result c.trits_to_take.result c.next_trits.new.image
    c.sizes_in-sizes.ensures c.trits_to_take.ensures (cc)
