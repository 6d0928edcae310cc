-- `swizzle_columns::repeat_rows` meets its contract.
use mathlib.Core.Path.{refl, sym, ap, ◌∙◌}
use Prim.Native.Nat.{ℕ, ◌+◌, ◌*◌}
use native.Mathlib.Omega.{arith}
use lib.ListN.{length}
use lib.Seq.{sets}
use native.Mathlib.Nat.{zero-mul}
use Rattle.rules.specs.Limits.{X}
use Rattle.rules.specs.Swizzle.{repeating}
use Rattle.swizzle_columns.proofs.Rows.{rows_in, row_next, from_first, from_row_of, repeat_row_turn, repeat_rows_end}
use Rattle.swizzle_columns.proofs.repeat_rows.Goals as goal

pub repeat_row-last-requires : goal.repeat_row-last-requires
repeat_row-last-requires c =
    let v = c.args in
    let w = c.loop-j.invariant in
    let x = rows_in v.olds c.loop-j.j (length v.entries.now) _ (length v.out.now) c.loop-j-test.true refl c.requires.enough in
    omega (arith, x, w.1)

pub loop-j-preserved : goal.loop-j-preserved
loop-j-preserved c =
    let h = c.loop-j in
    let v = c.args in
    let w = h.invariant in
    let p = c.repeat_row-last in
    let n = length v.entries.now in (
      omega arith,
      p.auto.out ∙ w.1,
      ap (λ (k : ℕ). sets p.new.out k (repeating p.result (from_row_of v.olds v.width v.entries.now (h.j + 1)) v.v.now)) (sym (row_next h.j n (h.j * n) refl))
          ∙ repeat_row_turn v.olds v.width v.entries.now v.v.now h.out h.j (h.j * v.width) (h.j * n) c.loop-j-test.true refl h.last p.result p.new.out p.ensures.value p.ensures.out_after ∙ w.2,
    )

pub returns : goal.returns
returns c =
    let h = c.loop-j in
    let v = c.args in
    sym (repeat_rows_end v.olds v.width v.entries.now v.v.now h.out h.j (h.j * length v.entries.now) c.loop-j-test.false h.last) ∙ h.invariant.2

pub loop-j-init : goal.loop-j-init
loop-j-init c =
    let v = c.args in
    (omega arith, refl, (λ i. sets v.out.now (zero-mul (length v.entries.now) i) (repeating X (from_first v.olds v.width v.entries.now i) v.v.now)))
