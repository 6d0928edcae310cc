-- `table_differ::put_last` meets its contract.
use Rattle.table_differ.proofs.Lines.{last_same, last_differ}
use Rattle.table_differ.specs.Differ.{same_line, differ_word, last_line}
use Rattle.record_listing.proofs.Puts.{added_then, added_as}
use native.Mathlib.Omega.{arith}
use Rattle.table_differ.proofs.put_last.Goals as goal

pub returns-then-count-eq0 : goal.returns-then-count-eq0
unfolding same_line
returns-then-count-eq0 c = added_as (last_line c.args.count) (last_same c.args.count c.if-count-eq0.true) (c.put.ensures (omega arith))

pub returns : goal.returns
unfolding differ_word
returns c =
    let n = c.args.count in
    let a = c.put-2.ensures (omega arith) in
    let b = c.put_number.ensures (omega (arith, a.put.place)) in
    let e = c.put-3.ensures (omega (arith, a.put.place, b.1)) in
    added_as (last_line n) (last_differ n c.if-count-eq0.false) (added_then (added_then a b.0) e)
