-- `record_listing::put_record` meets its contract.
use Rattle.rules.proofs.Answers.{refused_by}
use Rattle.record_listing.proofs.Puts.{put_as, lister_refused, lister-listed}
use mathlib.Core.Path.{sym, ◌∙◌}
use native.Mathlib.Omega.{arith}
use Rattle.record_listing.proofs.put_record.Goals as goal

pub put_listed-requires : goal.put_listed-requires
put_listed-requires c = sym c.in-Ok.ensures

pub returns-in-Ok : goal.returns-in-Ok
returns-in-Ok c = (put_as _ (lister-listed _ (sym c.in-Ok.ensures)) c.put_listed.ensures.0, c.put_listed.ensures.1)

pub returns-in-Err : goal.returns-in-Err
returns-in-Err c =
    let e = c.in-Err.ensures in
    (put_as _ (lister_refused _ _ e (λ z. refused_by _ _ e (sym e ∙ z))) c.put_refused.ensures.0, omega (arith, c.put_refused.ensures.1))
