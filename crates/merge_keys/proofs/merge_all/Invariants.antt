-- The invariants of `merge_keys::merge_all`.
use Rattle.merge_keys.specs.Columns.{keys_in}
use Rattle.merge_keys.specs.Keys.{Knows}
use Rattle.merge_keys.proofs.Pairs.{Walk}
use Rattle.merge_keys.proofs.Turn.{kept_of, Merged}
use Rattle.merge_keys.proofs.merge_all.Given as goal

abbrev pub invariant-loop-i : goal.invariant-loop-i
invariant-loop-i l =
    let i = l.i-iterator.count in record {
      merged : Merged (keys_in l.given) l.initial.kx l.initial.ky l.initial.at l.kx l.ky l.at l.count i;
      knows : Knows (kept_of (keys_in l.given) i) l.seen;
      walk : Walk l.given.x.now l.given.y.now i l.i-iterator.iter.a.rest.now l.i-iterator.iter.b.rest.now;
    }
