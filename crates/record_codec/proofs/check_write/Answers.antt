-- `record_codec::check_write` meets its contract.
use Rattle.record_sizes.specs.View.{view_sizes}
use Rattle.rules.proofs.Headers.{bad_trits_lem, all-trits}
use Rattle.record_codec.proofs.Writing.{write_4, write_17, write_short, write_full, write_0}
use mathlib.Core.Path.{sym, ◌∙◌}
use mathlib.Core.Bool.{true, false}
use native.Mathlib.Omega.{arith}
use mathlib.Core.Path.{ap}
use mathlib.Core.Bool.{not}
use Rattle.record_codec.proofs.check_write.Goals as goal
use Rattle.record_codec.proofs.check_write.Goals.{then-image-count-via-then-image-count, then-image-count-via-else-image-count+then-room-record_bytes}

pub returns-then-not-trits_good : goal.returns-then-not-trits_good
returns-then-not-trits_good c =
    write_4 _ _ _ (bad_trits_lem _ true _ _ c.image_of.ensures c.trits_good.ensures (ap not c.if-not-trits_good.true))

pub returns-then-is_bad : goal.returns-then-is_bad
returns-then-is_bad c =
    write_17 _ _ _ (bad_trits_lem _ false _ _ c.image_of.ensures c.trits_good.ensures (ap not c.if-not-trits_good.false)) (sym c.is_bad.ensures ∙ c.if-is_bad.true)

pub returns-then-image-count : goal.returns-then-image-count
returns-then-image-count c =
    let z = view_sizes c.args.sizes in
    let s = sym c.is_bad.ensures ∙ c.if-is_bad.false in
    let t = bad_trits_lem _ false _ _ c.image_of.ensures c.trits_good.ensures (ap not c.if-not-trits_good.false) in
    let n = all-trits z c.trits_within-count.result s c.trits_within-count.ensures in
    elim c.then-image-count.branch [
      | then-image-count-via-then-image-count w ↦ write_short _ z _ t s (omega (arith, n, w.if-image-count.true))
      | then-image-count-via-else-image-count+then-room-record_bytes w ↦ write_full _ z _ t s (omega (arith, n, w.if-image-count.false)) (omega (arith, w.record_bytes.ensures s, w.if-room-record_bytes.true))
    ]

pub returns : goal.returns
returns c =
    let z = view_sizes c.args.sizes in
    let s = sym c.is_bad.ensures ∙ c.if-is_bad.false in
    let n = all-trits z c.trits_within-count.result s c.trits_within-count.ensures in
    write_0 _ z _ (bad_trits_lem _ false _ _ c.image_of.ensures c.trits_good.ensures (ap not c.if-not-trits_good.false)) s (omega arith) (omega (arith, c.record_bytes.ensures s))
