-- `record_listing::summary::start_of` meets its contract.
use Rattle.record_sizes.specs.View.{view_sizes}
use Rattle.rules.proofs.Memories.{start_low, start_high}
use Rattle.record_listing.proofs.Starts.{low_max, low_rows, high_max, high_rows}
use mathlib.Core.Path.{sym}
use native.Mathlib.Omega.{arith}
use Rattle.record_listing.proofs.summary.start_of.Goals as goal

pub overflow_mul-result : goal.overflow_mul-result
overflow_mul-result c =
    omega (arith, low_rows (view_sizes c.args.s) c.requires.0 c.args.index c.requires.1 c.if-index-full.true)

pub overflow_mul-result-then-index-full : goal.overflow_mul-result-then-index-full
overflow_mul-result-then-index-full c =
    omega (arith, low_max (view_sizes c.args.s) c.requires.0 c.args.index c.requires.1 c.if-index-full.true)

pub returns-then-index-full : goal.returns-then-index-full
returns-then-index-full c =
    sym (start_low (view_sizes c.args.s) c.args.index c.if-index-full.true)

pub overflow_mul-result-2 : goal.overflow_mul-result-2
overflow_mul-result-2 c =
    omega (arith, high_rows (view_sizes c.args.s) c.requires.0 c.args.index c.requires.1 c.if-index-full.false)

pub overflow_mul-result-3 : goal.overflow_mul-result-3
overflow_mul-result-3 c =
    omega (arith, high_rows (view_sizes c.args.s) c.requires.0 c.args.index c.requires.1 c.if-index-full.false)

pub overflow_add-result : goal.overflow_add-result
overflow_add-result c =
    omega (arith, high_rows (view_sizes c.args.s) c.requires.0 c.args.index c.requires.1 c.if-index-full.false)

pub overflow_mul-result-4 : goal.overflow_mul-result-4
overflow_mul-result-4 c =
    omega (arith, high_max (view_sizes c.args.s) c.requires.0 c.args.index c.requires.1 c.if-index-full.false)

pub returns : goal.returns
returns c =
    sym (start_high (view_sizes c.args.s) c.args.index c.if-index-full.false)
