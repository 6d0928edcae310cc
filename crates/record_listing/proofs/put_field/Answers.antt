-- `record_listing::put_field` meets its contract.
use Rattle.record_listing.proofs.Puts.{added_then}
use native.Mathlib.Omega.{arith}
use Rattle.record_listing.proofs.put_field.Goals as goal

pub returns : goal.returns
returns c =
    let a = c.put.ensures (omega arith) in
    let b = c.put_number.ensures (omega (arith, a.put.place)) in
    (added_then a b.0, omega (arith, b.1, a.put.place))
