-- `swizzle_tree::last_alone` meets its contract.
use mathlib.Core.Path.{◌≡◌}
use native.Mathlib.Omega.{arith}
use Rattle.swizzle_tree.proofs.Pairing.{alone_none, alone_one, alone_fits}
use Rattle.swizzle_tree.proofs.last_alone.Goals as goal

pub returns-then-left-eq0 : goal.returns-then-left-eq0
returns-then-left-eq0 c = let v = c.args in alone_none v.width v.left v.from v.to v.pieces.now c.if-left-eq0.true

pub move_down-requires : goal.move_down-requires
move_down-requires c =
    let k = c in
    let v = k.args in
    let e : v.left ≡ 1 = omega arith in
    (k.requires.1, alone_fits v.width v.left v.from v.to v.pieces.now e k.requires.2)

pub returns : goal.returns
returns c =
    let k = c in
    let v = k.args in
    let e : v.left ≡ 1 = omega arith in
    alone_one v.width v.left v.from v.to v.pieces.now _ e c.move_down.ensures
