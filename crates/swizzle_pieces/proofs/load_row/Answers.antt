-- `swizzle_pieces::load_row` meets its contract.
use mathlib.Core.Path.{◌≡◌, ap, ◌∙◌}
use Prim.Native.Nat.{ℕ, ◌+◌}
use native.Mathlib.Omega.{arith}
use lib.ListN.{drop}
use Rattle.swizzle_laws.specs.Loads.{restore_from}
use Rattle.swizzle_pieces.proofs.Loaded.{row_turn, row_end, guard_not, guard_is}
use Rattle.swizzle_pieces.proofs.load_row.Goals as goal

pub returns-then-first-entries : goal.returns-then-first-entries
returns-then-first-entries c =
    let v = c.args in
    guard_not v.at v.first v.entries.now v.scratch.now (omega (arith, c.if-first-entries.true))

pub loop-i-preserved : goal.loop-i-preserved
loop-i-preserved c =
    let v = c.args in
    let l = c.loop-i in
    let e : v.first + (l.i + 1) ≡ v.first + l.i + 1 = omega arith in
    ap (λ (n : ℕ). restore_from v.at (drop (l.i + 1) v.entries.now) n c.place_net.new.scratch) e
    ∙ row_turn v.at (v.first + l.i) l.i v.entries.now l.scratch _ l.invariant c.place_net.new.scratch c.loop-i-test.true c.place_net.ensures

pub returns : goal.returns
returns c =
    let v = c.args in
    let l = c.loop-i in
    guard_is v.at v.first v.entries.now v.scratch.now _ (omega (arith, c.if-first-entries.false))
    (row_end v.at (v.first + l.i) l.i v.entries.now l.scratch _ l.invariant c.loop-i-test.false)
