-- `image_check::names_bad` meets its contract.
use mathlib.Core.Path.{◌≡◌}
use mathlib.Core.Bool.{true, false}
use borrow.Author.Rules.{rules}
use borrow.Author.Tests.{tests}
use Rattle.std.proofs.lemmas.Iterator.{cases_from_any, YieldsList-from_slice}
use Rattle.rules.specs.Conditions.{bad_entry, bad_names}
use Rattle.image_check.proofs.Runs.{any_ran}
use Rattle.image_check.proofs.names_bad.Goals as goal

pub returns : goal.returns
unfolding bad_names
returns c =
    any_ran (bad_entry c.args.width) _ _
    (cases_from_any _ _ _ (λ x. bad_entry c.args.width x ≡ true) (λ x. bad_entry c.args.width x ≡ false) c.any.ensures.ran (YieldsList-from_slice c.args.entries.now cc) (λ x q k. search (rules, tests)) (λ x q k. search (rules, tests)))
