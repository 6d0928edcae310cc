-- `table_readback::differences` meets its contract.
use Rattle.table_readback.proofs.Ends.{text_refused, text_accepted}
use Rattle.table_differ.specs.Differ.{diff_text}
use native.Mathlib.Omega.{arith}
use Rattle.table_readback.proofs.differences.Goals as goal

pub returns-then-out-differences_size : goal.returns-then-out-differences_size
returns-then-out-differences_size c =
    let a = c.args in
    text_refused a.out.now (diff_text a.rows.depth a.rows.width a.rows.trits.now a.theirs.now) (omega (arith, c.if-out-differences_size.true, c.differences_size.ensures))

pub returns : goal.returns
returns c =
    let a = c.args in
    text_accepted a.out.now (diff_text a.rows.depth a.rows.width a.rows.trits.now a.theirs.now) _ _ c.put_differences.ensures.0 c.put_differences.ensures.1 (omega (arith, c.if-out-differences_size.false, c.differences_size.ensures))
