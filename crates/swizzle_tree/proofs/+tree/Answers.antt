-- `swizzle_tree::tree` meets its contract.
use mathlib.Core.Path.{◌≡◌}
use Prim.Native.Nat.{◌-◌, ◌/◌}
use native.Mathlib.Omega.{arith}
use Rattle.log_entries.specs.View.{lent_of}
use Rattle.swizzle_tree.proofs.Treeing.{bits_left, treed_none, treed_split}
use Rattle.swizzle_tree.proofs.+tree.Goals as goal

pub returns-then-is_empty : goal.returns-then-is_empty
returns-then-is_empty t c =
    let v = c.args in
    treed_none v.bits.now v.width v.count v.pieces.now (lent_of v.log.now) c.requires.0 (grind arith)

pub returns : goal.returns
returns t c =
    let v = c.args in
    let p = c.pair_up in
    let r = c.tree in
    let e = bits_left v.bits.now in
    let h : c.div_ceil.result ≡ v.count - v.count / 2 = omega (arith, c.div_ceil.ensures) in
    treed_split v.bits.now v.width v.count v.pieces.now p.new.pieces r.new.pieces (lent_of v.log.now) (lent_of p.new.log) (lent_of r.new.log) (grind arith) c.requires.1 p.ensures (rw (e, h) at r.ensures)
