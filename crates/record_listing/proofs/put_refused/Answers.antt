-- `record_listing::put_refused` meets its contract.
use Rattle.rules.specs.Lister.{refused_line, refused_text, decimal}
use Rattle.std.proofs.Common.{ap, rules}
use Rattle.record_listing.proofs.Puts.{added_then, added_as}
use native.Mathlib.Omega.{arith}
use Rattle.record_listing.proofs.put_refused.Goals as goal

pub returns : goal.returns
unfolding refused_line refused_text
returns c =
    let a = c.put.ensures (omega arith) in
    let b = c.put_number.ensures (omega (arith, a.put.place)) in
    let e = c.put-2.ensures (omega (arith, a.put.place, b.1)) in
    let p = added_then (added_then a (added_as _ (ap decimal c.number.ensures) b.0)) e in
    let s = p.put.stored in
    let n = p.name in
    (record { stored = search rules; place = p.put.place }, omega (arith, e.put.place, b.1, a.put.place))
