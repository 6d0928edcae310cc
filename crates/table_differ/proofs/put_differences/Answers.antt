-- `table_differ::put_differences` meets its contract.
use Rattle.table_differ.proofs.Lines.{diff_deep, diff_wide, diff_all}
use Rattle.table_differ.specs.Differ.{diff_text}
use Rattle.record_listing.proofs.Puts.{added_then, added_as}
use borrow.Author.Rules.{rules}
use lib.Seq.{sets}
use mathlib.Core.Logic.{⊎_elim}
use mathlib.Core.Path.{ap}
use native.Mathlib.Omega.{arith}
use lib.ListN.{length}
use Rattle.table_differ.proofs.put_differences.Goals as goal

pub returns-then-depth-gt-MAX_DEPTH : goal.returns-then-depth-gt-MAX_DEPTH
returns-then-depth-gt-MAX_DEPTH c =
    let a = c.args in
    let e = ⊎_elim (λ d. diff_deep a.depth a.width a.a.now a.b.now d) (λ w. diff_wide a.depth a.width a.a.now a.b.now w.0 w.1) c.then-depth-gt-MAX_DEPTH.either in
    (ap (sets a.out.now 0) e, ap length e)

pub put_last-requires : goal.put_last-requires
put_last-requires c = omega (arith, c.put_all-count.ensures.2, c.if-depth-gt-MAX_DEPTH.false)

pub returns : goal.returns
returns c =
    let a = c.args in
    let e = c.put_all-count.ensures in
    let w = added_as (diff_text a.depth a.width a.a.now a.b.now) (diff_all a.depth a.width a.a.now a.b.now _ c.if-depth-gt-MAX_DEPTH.false c.if-width-gt-MAX_WIDTH.false e.1) (added_then e.0 c.put_last.ensures) in
    let s = w.put.stored in
    let n = w.name in
    (search rules, omega (arith, w.put.place))
