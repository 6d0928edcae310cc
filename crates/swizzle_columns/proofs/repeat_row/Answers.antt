-- `swizzle_columns::repeat_row` meets its contract.
use mathlib.Core.Path.{sym, ◌∙◌}
use native.Mathlib.Omega.{arith}
use lib.ListN.{length-set}
use Rattle.swizzle_columns.proofs.Rows.{repeat_turn, last_turn, repeat_ends, last_ends}
use Rattle.swizzle_columns.proofs.repeat_row.Goals as goal

pub loop-i-preserved : goal.loop-i-preserved
loop-i-preserved c =
    let h = c in
    let v = c.args in
    let t = c.loop-i-test.true in (
      omega arith,
      simp length-set h.loop-i.invariant.1,
      repeat_turn v.base v.entries.now v.v.now h.loop-i.out v.at h.loop-i.i h.loop-i.last _ _ t c.source.ensures c.bit_of-last.ensures ∙ h.loop-i.invariant.2,
      last_turn v.base v.entries.now v.v.now h.loop-i.out v.at h.loop-i.i h.loop-i.last _ _ t c.source.ensures c.bit_of-last.ensures ∙ h.loop-i.invariant.3,
    )

pub returns : goal.returns
returns c =
    let h = c in
    let v = c.args in
    let t = c.loop-i-test.false in
    record { value = sym (last_ends v.base v.entries.now v.v.now h.loop-i.i h.loop-i.last t) ∙ h.loop-i.invariant.3; out_after = sym (repeat_ends v.base v.entries.now v.v.now h.loop-i.i h.loop-i.last t h.loop-i.out v.at) ∙ h.loop-i.invariant.2 }
