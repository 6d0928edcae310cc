-- `record_listing::text::Text::put_number` meets its contract.
use Rattle.rules.specs.Lister.{decimal}
use Rattle.record_listing.proofs.Puts.{added_as, all_from}
use Rattle.record_listing.proofs.Digits.{length_decimal}
use native.Mathlib.Omega.{arith}
use Rattle.record_listing.proofs.text.Text.put_number.Goals as goal

pub returns : goal.returns
returns c h =
    let n = c.args.n in
    let e = all_from c.digits_of-from.new.digits (decimal n) c.digits_of-from.result (omega arith) c.digits_of-from.ensures.0 in
    let p = c.put.ensures (omega arith) in
    let w = added_as (decimal n) e p in
    (w, omega (arith, w.put.place, length_decimal n))
