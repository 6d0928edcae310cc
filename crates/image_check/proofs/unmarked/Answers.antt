-- `image_check::unmarked` meets its contract.
use Prim.Native.Nat.{ℕ}
use mathlib.Core.Path.{◌≡◌, ap, ◌∙◌}
use mathlib.Core.Bool.{true, false, not}
use native.Mathlib.Omega.{arith}
use lib.Dec.{eqb}
use lib.ListN.{get_or, take}
use borrow.Author.Rules.{rules}
use borrow.Author.Tests.{tests}
use Rattle.std.proofs.lemmas.Iterator.{cases_from_any, YieldsList-from_slice}
use Rattle.image_check.proofs.Runs.{any_ran, any_take}
use Rattle.image_check.proofs.unmarked.Goals as goal

pub returns : goal.returns
returns c =
    any_ran (λ m. not (eqb m 1)) _ _
    (cases_from_any _ _ _ (λ x. not (eqb x 1) ≡ true) (λ x. not (eqb x 1) ≡ false) c.any.ensures.ran (YieldsList-from_slice (take c.args.count c.args.marks.now) cc) (λ x q k. search (rules, tests)) (λ x q k. search (rules, tests)))
    ∙ any_take (λ m. not (eqb m 1)) (λ j. not (eqb (get_or c.args.marks.now j 0) 1)) c.args.marks.now 0 c.args.count (omega arith) (λ j l. ap (λ (n : ℕ). not (eqb (get_or c.args.marks.now n 0) 1)) (omega arith))
