-- `table_readback::shown` meets its contract.
use Rattle.table_readback.proofs.Ends.{text_refused, text_accepted}
use Rattle.lists.proofs.Stores.{sets_then}
use Rattle.table_print.specs.Rows.{rows_shown}
use lib.ListN.{length-append}
use native.Mathlib.Omega.{arith}
use mathlib.Core.List.{◌++◌}
use lib.ListN.{length}
use Rattle.table_readback.proofs.shown.Goals as goal

pub returns-then-out-n : goal.returns-then-out-n
returns-then-out-n c =
    let a = c.args in
    let t = rows_shown a.rows.depth a.rows.width a.rows.trits.now in
    text_refused a.out.now (a.line.now ++ t) (omega (arith, length-append a.line.now t, c.if-out-n.true))

pub returns-then-out-n-2 : goal.returns-then-out-n-2
returns-then-out-n-2 c =
    let a = c.args in
    let t = rows_shown a.rows.depth a.rows.width a.rows.trits.now in
    text_refused a.out.now (a.line.now ++ t) (omega (arith, length-append a.line.now t, c.if-out-n-2.true, c.if-out-n.false, c.rows_size-size.ensures))

pub put_behind-requires : goal.put_behind-requires
put_behind-requires c = omega (arith, c.if-out-n.false, c.copy.auto.to)

pub returns : goal.returns
returns c =
    let a = c.args in
    let t = rows_shown a.rows.depth a.rows.width a.rows.trits.now in
    let k = length-append a.line.now t in
    text_accepted a.out.now (a.line.now ++ t) _ _ (sets_then a.out.now _ _ 0 (length a.line.now) a.line.now t c.copy.ensures c.put_behind.ensures (omega arith)) (omega (arith, k, c.rows_size-size.ensures)) (omega (arith, k, c.rows_size-size.ensures, c.if-out-n-2.false, c.if-out-n.false))
