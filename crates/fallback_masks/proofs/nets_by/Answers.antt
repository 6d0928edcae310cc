-- `fallback_masks::nets_by` meets its contract.
use native.Mathlib.Omega.{arith}
use Rattle.fallback_masks.proofs.Numbers.{nets_none, nets_some}
use Rattle.fallback_masks.proofs.nets_by.Goals as goal

pub returns-then-writes-eq0 : goal.returns-then-writes-eq0
returns-then-writes-eq0 c = (nets_none c.args.depth c.args.width c.args.writes c.if-writes-eq0.true, omega arith)

pub returns : goal.returns
returns c =
    let v = c.args in
    (nets_some v.depth v.width v.writes _ _ c.if-writes-eq0.false c.in_row.ensures.0 c.in_rows.ensures.0, omega arith)
