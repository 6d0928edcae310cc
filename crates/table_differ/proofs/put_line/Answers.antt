-- `table_differ::put_line` meets its contract.
use Rattle.table_differ.specs.Differ.{row_word_of, colon, diff_line}
use Rattle.record_listing.proofs.Puts.{added_then}
use native.Mathlib.Omega.{arith}
use Rattle.table_differ.proofs.put_line.Goals as goal

pub put_trits-requires : goal.put_trits-requires
put_trits-requires c =
    let a = c.put.ensures (omega arith) in
    let b = c.put_number.ensures (omega (arith, a.put.place)) in
    let t = c.put-2.ensures (omega (arith, a.put.place, b.1)) in
    omega (arith, a.put.place, b.1, t.put.place)

pub put_trits-requires-2 : goal.put_trits-requires-2
put_trits-requires-2 c =
    let a = c.put.ensures (omega arith) in
    let b = c.put_number.ensures (omega (arith, a.put.place)) in
    let t = c.put-2.ensures (omega (arith, a.put.place, b.1)) in
    let e = c.put-3.ensures (omega (arith, a.put.place, b.1, t.put.place, c.put_trits.ensures.1)) in
    omega (arith, a.put.place, b.1, t.put.place, c.put_trits.ensures.1, e.put.place)

pub returns : goal.returns
unfolding diff_line row_word_of colon
returns c =
    let a = c.put.ensures (omega arith) in
    let b = c.put_number.ensures (omega (arith, a.put.place)) in
    let t = c.put-2.ensures (omega (arith, a.put.place, b.1)) in
    let d = c.put_trits.ensures in
    let e = c.put-3.ensures (omega (arith, a.put.place, b.1, t.put.place, d.1)) in
    let f = c.put_trits-2.ensures in
    let z = c.put-4.ensures (omega (arith, a.put.place, b.1, t.put.place, d.1, e.put.place, f.1)) in (
      added_then (added_then (added_then (added_then (added_then (added_then a b.0) t) d.0) e) f.0) z,
      omega (arith, a.put.place, b.1, t.put.place, d.1, e.put.place, f.1, z.put.place),
    )
