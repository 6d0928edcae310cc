-- `swizzle_columns::Grid::store_from` meets its contract.
use mathlib.Core.Path.{sym, ap, ◌∙◌}
use Prim.Native.Nat.{◌+◌, ◌<◌}
use native.Mathlib.Omega.{arith}
use lib.ListN.{length, take}
use lib.Seq.{get_or-take, length-take-le}
use native.Mathlib.Nat.{add_assoc}
use Rattle.swizzle_columns.proofs.Cursors.{left, run_stored, run_ends, run-whole, next_at_lem, steppable}
use Rattle.swizzle_columns.proofs.Grid.store_from.Goals as goal

pub cursor_at-c-requires : goal.cursor_at-c-requires
cursor_at-c-requires g c = (c.requires.good, omega (arith, c.requires.n_nonzero))

pub next-c-requires : goal.next-c-requires
next-c-requires g c =
    let v = c.args in
    let w = c.loop-bit in
    let t : w.bit-index < v.n = omega (arith, c.loop-bit-test.true, length-take-le v.n v.v.now (omega (arith, c.requires.n_nonzero))) in
    steppable v.self (length v.to.now) c.requires.good (v.start + w.bit-index) w.c w.invariant.1 (omega (arith, c.requires.n_nonzero))

pub loop-bit-preserved : goal.loop-bit-preserved
loop-bit-preserved g c =
    let v = c.args in
    let h = c.loop-bit in
    let w = h.invariant in
    let i = h.bit-index in
    let m = length-take-le v.n v.v.now (omega (arith, c.requires.n_nonzero)) in
    let t : i < v.n = omega (arith, c.loop-bit-test.true, m) in (
      c.put.auto.to ∙ w.0,
      rw (c.next-c.ensures, ← add_assoc v.start i 1) (next_at_lem v.self (length v.to.now) c.requires.good (v.start + i) h.c w.1),
      ap (λ l. left v.self v.start l (take v.n v.v.now) (i + 1)) c.put.ensures ∙ run_stored v.self v.start v.n i h.to v.v.now h.c.index c.bit-item.result c.bit-item.result (c.bit-item.is ∙ get_or-take v.n v.v.now i c.bit-item.result t) (omega (arith, c.requires.n_nonzero)) t w.1.index_is ∙ w.2,
    )

pub returns : goal.returns
returns g c =
    let v = c.args in
    let h = c.loop-bit in
    let m = length-take-le v.n v.v.now (omega (arith, c.requires.n_nonzero)) in
    sym (run_ends v.self v.start v.n h.bit-index h.to v.v.now (omega (arith, c.requires.n_nonzero)) (omega (arith, c.loop-bit-test.false, m))) ∙ h.invariant.2
    ∙ run-whole v.self _ v.start v.n v.to.now v.v.now c.requires.good c.requires.n_nonzero.1
