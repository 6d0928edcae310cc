-- `fallback_masks::words_by` meets its contract.
use native.Mathlib.Omega.{arith}
use Rattle.fallback_masks.proofs.Numbers.{words_none, words_some}
use Rattle.fallback_masks.proofs.words_by.Goals as goal

pub returns-then-writes-eq0 : goal.returns-then-writes-eq0
returns-then-writes-eq0 c =
    let v = c.args in
    (words_none v.depth v.width v.reads v.writes v.runs _ _ c.if-writes-eq0.true c.in_row.ensures.0 c.in_rows-driven.ensures.0, omega arith)

pub returns : goal.returns
returns c =
    let v = c.args in
    (words_some v.depth v.width v.reads v.writes v.runs _ _ _ _ c.if-writes-eq0.false c.in_row.ensures.0 c.in_rows-driven.ensures.0 c.in_row-2.ensures.0 c.in_rows.ensures.0, omega arith)
