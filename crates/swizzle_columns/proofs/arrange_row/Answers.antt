-- `swizzle_columns::arrange_row` meets its contract.
use native.Mathlib.Omega.{arith}
use lib.ListN.{length-set}
use Rattle.swizzle_columns.proofs.Arrange.{arrange_turn, arrange-done}
use Rattle.swizzle_columns.proofs.arrange_row.Goals as goal

pub loop-i-preserved : goal.loop-i-preserved
loop-i-preserved g c =
    let h = c in
    let v = c.args in
    (omega arith, simp length-set h.loop-i.invariant.1, arrange_turn v.blank v.base v.entries.now v.v.now v.out.now h.loop-i.out v.at h.loop-i.i h.loop-i.invariant.2 _ _ c.loop-i-test.true c.source.ensures c.bit_of.ensures)

pub returns : goal.returns
returns g c =
    let h = c in
    let v = c.args in
    arrange-done v.blank v.base v.entries.now v.v.now v.out.now h.loop-i.out v.at h.loop-i.i h.loop-i.invariant.2 c.loop-i-test.false
