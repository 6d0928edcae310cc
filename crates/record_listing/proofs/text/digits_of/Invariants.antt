-- The invariants of `record_listing::text::digits_of`.
use Rattle.rules.specs.Lister.{digits_from, decimal}
use mathlib.Core.Path.{◌≡◌}
use lib.ListN.{drop}
use Rattle.record_listing.proofs.text.digits_of.Given as goal

abbrev pub invariant-loop-i : goal.invariant-loop-i
invariant-loop-i l = digits_from l.i l.left (drop l.i l.digits) ≡ decimal l.n
