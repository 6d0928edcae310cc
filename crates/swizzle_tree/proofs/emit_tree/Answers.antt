-- `swizzle_tree::emit_tree` meets its contract.
use native.Mathlib.Omega.{arith}
use Rattle.log_entries.specs.View.{lent_of}
use Rattle.swizzle_tree.proofs.Treeing.{built_none, built_short, built_tree, product_fits}
use Rattle.swizzle_tree.proofs.emit_tree.Goals as goal

pub returns-then-count-eq0 : goal.returns-then-count-eq0
returns-then-count-eq0 c =
    let v = c.args in
    built_none v.bits.now v.width v.count v.pieces.now (lent_of v.log.now) c.if-count-eq0.true

pub overflow_mul-n : goal.overflow_mul-n
overflow_mul-n c =
    let v = c.args in
    omega (arith, product_fits v.count v.width (omega arith) (omega arith))

pub returns-then-pieces-n : goal.returns-then-pieces-n
returns-then-pieces-n c =
    let v = c.args in
    built_short v.bits.now v.width v.count v.pieces.now (lent_of v.log.now) c.if-pieces-n.true

pub returns : goal.returns
returns c =
    let v = c.args in
    let r = c.tree in
    built_tree v.bits.now v.width v.count v.pieces.now r.new.pieces (lent_of v.log.now) (lent_of r.new.log) (omega (arith, c.if-count-eq0.false)) (omega (arith, c.if-pieces-n.false)) r.ensures
