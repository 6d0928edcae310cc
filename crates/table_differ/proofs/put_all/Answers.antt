-- `table_differ::put_all` meets its contract.
use Rattle.table_differ.proofs.Lines.{left_all, left_turn, left_end, times_max, one_more, no_times}
use mathlib.Core.Path.{refl, ◌∙◌}
use native.Mathlib.Omega.{arith}
use Rattle.table_differ.proofs.put_all.Goals as goal

pub loop-row-init : goal.loop-row-init
loop-row-init c =
    let a = c.args in (refl, no_times a.size.width, omega (arith, c.requires.1), omega arith, rw c.requires.1 (left_all a.size.width a.a.now a.b.now a.text.now.out.now a.size.depth))

pub put_row-count-requires : goal.put_row-count-requires
put_row-count-requires c =
    let l = c.loop-row in
    (omega (arith, l.invariant.2, c.requires.0), omega (arith, l.invariant.3, c.requires.0))

pub overflow_add-from : goal.overflow_add-from
overflow_add-from c =
    let l = c.loop-row in
    let a = c.args in
    omega (arith, l.invariant.1, times_max l.row a.size.width (omega (arith, c.requires.0)) a.size.within, a.size.within)

pub loop-row-preserved : goal.loop-row-preserved
loop-row-preserved c =
    let l = c.loop-row in
    let a = c.args in
    let x = c.put_row-count.new.text in
    let p = c.put_row-count.ensures in (
      p.0.name ∙ l.invariant.0,
      omega (arith, l.invariant.1, one_more l.row a.size.width),
      omega (arith, l.invariant.2, p.2),
      omega (arith, l.invariant.3, p.3),
      left_turn a.size.width a.a.now a.b.now a.text.now.out.now l.text.out.now x.out.now l.text.at x.at l.count _ a.size.depth l.row l.from _ _ _ (omega arith) l.invariant.1 refl c.part.ensures.part c.part-in-loop-row.ensures.part p.0.put p.1 l.invariant.4,
    )

pub returns : goal.returns
returns c =
    let l = c.loop-row in
    let a = c.args in
    let e = left_end a.size.width a.a.now a.b.now a.text.now.out.now l.text.out.now l.text.at l.count a.size.depth l.row (omega arith) l.invariant.4 in
    (record { put = rw c.requires.1 e.0; name = l.invariant.0 }, e.1, omega (arith, l.invariant.2))
