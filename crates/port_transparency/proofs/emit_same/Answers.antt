-- `port_transparency::emit_same` meets its contract.
use mathlib.Core.Path.{◌≡◌, sym, ◌∙◌}
use Prim.Native.Nat.{max}
use native.Mathlib.Omega.{arith}
use lib.ListN.{length, take}
use Rattle.rules.specs.Value.{zext}
use Rattle.log_entries.specs.View.{lent_of}
use Rattle.port_transparency.proofs.Seen.{zext_stored}
use Rattle.port_transparency.proofs.Covered.{zext_length, gave_eq}
use Rattle.port_transparency.proofs.emit_same.Goals as goal

pub returns : goal.returns
returns c =
    let v = c.args in
    let w = v.waddr.now in
    let r = v.raddr.now in
    let k = c.max-n.result in
    let e : k ≡ max (length w) (length r) = c.max-n.ensures in
    let p = c.emit_eq in
    gave_eq (zext r (length w)) (zext w (length r)) (take k c.store_zext.new.out) (take k c.store_zext-2.new.out) (lent_of v.log.now) (lent_of p.new.self)
    (zext_stored v.x.now c.store_zext.new.out r (length w) k c.store_zext.ensures (zext_length r (length w) ∙ sym e) (omega arith))
    (zext_stored v.y.now c.store_zext-2.new.out w (length r) k c.store_zext-2.ensures (omega (arith, zext_length w (length r))) (omega arith))
    p.ensures
