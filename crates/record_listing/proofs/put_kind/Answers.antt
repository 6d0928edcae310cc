-- `record_listing::put_kind` meets its contract.
use Rattle.rules.specs.Lister.{blank_text, load_text}
use Rattle.record_listing.proofs.Puts.{added_as}
use native.Mathlib.Omega.{arith}
use Rattle.record_listing.proofs.put_kind.Goals as goal

pub returns-then-blank : goal.returns-then-blank
unfolding blank_text
returns-then-blank c =
    let p = c.put.ensures (omega arith) in
    (added_as _ (rw c.if-blank.true) p, omega (arith, p.put.place))

pub returns-else-blank : goal.returns-else-blank
unfolding load_text
returns-else-blank c =
    let p = c.put-else-blank.ensures (omega arith) in
    (added_as _ (rw c.if-blank.false) p, omega (arith, p.put.place))
