-- `record_listing::summary::counts_of` meets its contract.
use Rattle.lists.proofs.Sum.{sum_drop, sum_end}
use Rattle.rules.specs.Record.{known_bit, value_bit}
use Rattle.record_bits.proofs.Packs.{known_lt, value_lt}
use native.Mathlib.Omega.{arith}
use lib.ListN.{get_or}
use Rattle.record_listing.proofs.summary.counts_of.Goals as goal

pub loop-t-init : goal.loop-t-init
loop-t-init c = (omega arith, omega arith, omega arith, omega arith)

pub overflow_add-known : goal.overflow_add-known
overflow_add-known c =
    let l = c.loop-t in
    omega (arith, c.known_bit.ensures, known_lt (get_or c.args.ts.now l.t-index 0))

pub overflow_add-ones : goal.overflow_add-ones
overflow_add-ones c =
    let l = c.loop-t in
    omega (arith, c.value_bit.ensures, value_lt (get_or c.args.ts.now l.t-index 0))

pub loop-t-preserved : goal.loop-t-preserved
loop-t-preserved c =
    let l = c.loop-t in
    let ts = c.args.ts.now in
    let a = sum_drop known_bit ts l.t-index 0 (omega arith) in
    let b = sum_drop value_bit ts l.t-index 0 (omega arith) in
    let p = known_lt (get_or ts l.t-index 0) in
    let q = value_lt (get_or ts l.t-index 0) in
    let x = c.known_bit.ensures in
    let y = c.value_bit.ensures in
    (omega arith, omega arith, omega arith, omega arith)

pub returns : goal.returns
returns c =
    let l = c.loop-t in
    let ts = c.args.ts.now in
    let a = sum_end known_bit ts l.t-index (omega arith) in
    let b = sum_end value_bit ts l.t-index (omega arith) in
    (omega arith, omega arith)
