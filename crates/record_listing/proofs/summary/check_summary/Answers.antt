-- `record_listing::summary::summary_refusal` meets its contract.
use Rattle.rules.proofs.Headers.{bad_trits_lem, all-trits}
use Rattle.record_sizes.specs.View.{view_sizes}
use Rattle.record_listing.proofs.Numbers.{summary_4, summary_15, summary_17, summary_20, summary_0}
use mathlib.Core.Path.{sym, ◌∙◌}
use mathlib.Core.Bool.{true, false}
use native.Mathlib.Omega.{arith}
use mathlib.Core.Path.{ap}
use mathlib.Core.Bool.{not}
use Rattle.record_listing.proofs.summary.check_summary.Goals as goal

pub returns-then-not-trits_good : goal.returns-then-not-trits_good
returns-then-not-trits_good c =
    summary_4 _ _ _ (bad_trits_lem _ true _ _ c.image_of.ensures c.trits_good.ensures (ap not c.if-not-trits_good.true))

pub returns-then-memories-index : goal.returns-then-memories-index
returns-then-memories-index c =
    let z = view_sizes c.args.s in
    summary_15 z _ _ (bad_trits_lem _ false _ _ c.image_of.ensures c.trits_good.ensures (ap not c.if-not-trits_good.false)) (omega (arith, c.memories.ensures))

pub returns-then-is_bad : goal.returns-then-is_bad
returns-then-is_bad c =
    let z = view_sizes c.args.s in
    summary_17 z _ _ (bad_trits_lem _ false _ _ c.image_of.ensures c.trits_good.ensures (ap not c.if-not-trits_good.false)) (omega (arith, c.memories.ensures)) (sym c.is_bad.ensures ∙ c.if-is_bad.true)

pub returns-then-image-trits_within : goal.returns-then-image-trits_within
returns-then-image-trits_within c =
    let z = view_sizes c.args.s in
    let s = sym c.is_bad.ensures ∙ c.if-is_bad.false in
    summary_20 z _ _ (bad_trits_lem _ false _ _ c.image_of.ensures c.trits_good.ensures (ap not c.if-not-trits_good.false)) (omega (arith, c.memories.ensures)) s (omega (arith, all-trits z c.trits_within.result s c.trits_within.ensures))

pub returns : goal.returns
returns c =
    let z = view_sizes c.args.s in
    let s = sym c.is_bad.ensures ∙ c.if-is_bad.false in
    summary_0 z _ _ (bad_trits_lem _ false _ _ c.image_of.ensures c.trits_good.ensures (ap not c.if-not-trits_good.false)) (omega (arith, c.memories.ensures)) s (omega (arith, all-trits z c.trits_within.result s c.trits_within.ensures))
