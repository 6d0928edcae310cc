-- `record_sizes::Sizes::trits_within` meets its contract.
use Rattle.record_sizes.proofs.Counts.{within}
use Rattle.rules.specs.Record.{size_trits}
use Rattle.record_sizes.specs.View.{view_sizes}
use Rattle.std.proofs.Common.{◌*◌, arith}
use Rattle.record_sizes.proofs.Sizes.trits_within.Goals as goal

pub returns : goal.returns
unfolding size_trits
returns c =
    let s = view_sizes c.args.self in
    cc (within s.unit (s.full * s.full_depth_of) (s.partial * s.partial_depth) c.args.most 18446744073709551615 (omega arith))
