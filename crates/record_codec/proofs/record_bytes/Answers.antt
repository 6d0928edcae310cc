-- `record_codec::record_bytes` meets its contract.
use Rattle.rules.proofs.Headers.{all-trits}
use Rattle.record_sizes.specs.View.{view_sizes}
use Rattle.record_codec.proofs.Writing.{bytes_are}
use Rattle.record_codec.proofs.record_bytes.Goals as goal

pub returns : goal.returns
returns c = λ s. let z = view_sizes c.args.sizes in bytes_are z c.trits_within.result c.bytes_for.result (all-trits z c.trits_within.result s c.trits_within.ensures) c.bytes_for.ensures
