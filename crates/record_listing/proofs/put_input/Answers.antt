-- `record_listing::put_input` meets its contract.
use Rattle.record_listing.proofs.Puts.{put_as, stored_whole, stored_part}
use native.Mathlib.Omega.{arith}
use Rattle.record_listing.proofs.put_input.Goals as goal

pub returns-then-first-total : goal.returns-then-first-total
returns-then-first-total c =
    (put_as _ (stored_whole _ _ c.if-first-total.true) c.put_record.ensures.0, c.put_record.ensures.1)

pub returns : goal.returns
returns c =
    (put_as _ (stored_part _ _ _ c.if-first-total.false c.stored_refusal.ensures) c.put_refused.ensures.0, omega (arith, c.put_refused.ensures.1))
