-- `table_print::put_all` meets its contract.
use Rattle.table_print.proofs.Putting.{rows_turn, rows_end, rows_start, length_row, times_max, one_more, no_times, same_times}
use native.Mathlib.Omega.{arith}
use borrow.Author.Rules.{rules}
use Prim.Native.Nat.{◌+◌}
use mathlib.Core.Path.{◌≡◌, refl, sym, ap, ◌∙◌}
use Rattle.table_print.proofs.put_all.Goals as goal

pub loop-row-init : goal.loop-row-init
loop-row-init c =
    let a = c.args in (refl, no_times (a.size.width + 1), no_times a.size.width, rows_start a.size.width a.size.depth a.rows.now a.out.now)

pub put_row-requires : goal.put_row-requires
put_row-requires c =
    let l = c.loop-row in
    let a = c.args in (
      omega (arith, l.invariant.1, times_max l.row (a.size.width + 1) (omega (arith, c.requires)) (omega (arith, a.size.within))),
      omega (arith, l.invariant.2, times_max l.row a.size.width (omega (arith, c.requires)) (omega (arith, a.size.within))),
    )

pub overflow_add-from : goal.overflow_add-from
overflow_add-from c =
    let l = c.loop-row in let a = c.args in omega (arith, l.invariant.2, times_max l.row a.size.width (omega (arith, c.requires)) (omega (arith, a.size.within)), a.size.within)

pub loop-row-preserved : goal.loop-row-preserved
loop-row-preserved c =
    let l = c.loop-row in
    let a = c.args in
    let p = c.put_row.ensures in
    let x = c.put_row.new.text in
    let e : x.at ≡ l.text.at + (a.size.width + 1) = p.put.place ∙ ap (λ n. l.text.at + n) (length_row a.rows.now l.from a.size.width) in (
      p.name ∙ l.invariant.0,
      omega (arith, e, l.invariant.1, one_more l.row (a.size.width + 1)),
      omega (arith, l.invariant.2, one_more l.row a.size.width),
      rows_turn a.size.width a.rows.now l.text.out.now x.out.now l.text.at x.at l.from l.row a.size.depth (omega arith) l.invariant.2 p.put.stored e ∙ l.invariant.3,
    )

pub returns : goal.returns
returns c =
    let l = c.loop-row in
    let a = c.args in
    let e : l.row ≡ a.size.depth = omega arith in
    let s = sym (rows_end a.size.width a.rows.now l.text.out.now l.text.at l.row a.size.depth (omega arith)) ∙ l.invariant.3 in
    let n = l.invariant.0 in
    (search rules, l.invariant.1 ∙ same_times l.row a.size.depth (a.size.width + 1) e)
