-- `record_listing::summary::summary_at` meets its contract.
use Rattle.record_sizes.specs.View.{view_sizes}
use Rattle.lists.specs.Lists.{sum_by}
use Rattle.rules.specs.Record.{known_bit, value_bit}
use Rattle.rules.specs.Lister.{summary_of}
use Rattle.rules.proofs.Headers.{kept}
use Rattle.record_listing.proofs.Numbers.{known}
use Rattle.record_listing.proofs.Starts.{end_within, memory_is}
use mathlib.Core.Path.{ap, ◌∙◌}
use native.Mathlib.Omega.{arith}
use Rattle.record_listing.proofs.summary.summary_at.Goals as goal

pub start_of-from-requires : goal.start_of-from-requires
start_of-from-requires c =
    let k = known _ _ _ c.requires in
    (k.sizes, k.below)

pub overflow_mul-end : goal.overflow_mul-end
overflow_mul-end c =
    let z = view_sizes c.args.s in
    let k = known _ _ _ c.requires in
    omega (arith, end_within z c.args.image.now c.args.index c.start_of-from.result c.depth_of-depth.result c.start_of-from.ensures c.depth_of-depth.ensures k.sizes k.below, (kept z k.sizes).trits_max)

pub overflow_add-end : goal.overflow_add-end
overflow_add-end c =
    let z = view_sizes c.args.s in
    let k = known _ _ _ c.requires in
    omega (arith, end_within z c.args.image.now c.args.index c.start_of-from.result c.depth_of-depth.result c.start_of-from.ensures c.depth_of-depth.ensures k.sizes k.below, (kept z k.sizes).trits_max)

pub slice_bounds-counts_of-end : goal.slice_bounds-counts_of-end
slice_bounds-counts_of-end c =
    let z = view_sizes c.args.s in
    let k = known _ _ _ c.requires in
    omega (arith, end_within z c.args.image.now c.args.index c.start_of-from.result c.depth_of-depth.result c.start_of-from.ensures c.depth_of-depth.ensures k.sizes k.below, k.whole)

pub returns : goal.returns
unfolding summary_of
returns c =
    let e = memory_is (view_sizes c.args.s) c.args.image.now c.args.index c.start_of-from.result c.depth_of-depth.result c.start_of-from.ensures c.depth_of-depth.ensures in
    let x = c.counts_of-n.ensures.0 ∙ ap (sum_by known_bit) e in
    let y = c.counts_of-n.ensures.1 ∙ ap (sum_by value_bit) e in
    λ i. record { index = c.args.index; depth = c.depth_of-depth.ensures i; known = x i; ones = y i }
