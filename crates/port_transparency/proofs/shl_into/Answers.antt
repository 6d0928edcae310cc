-- `port_transparency::shl_into` meets its contract.
use mathlib.Core.Path.{sym}
use native.Mathlib.Omega.{arith}
use lib.ListN.{take}
use lib.Seq.{length-take-le}
use Rattle.log_entries.specs.View.{lent_of}
use Rattle.port_transparency.proofs.Seen.{length_zext, zext_stored, gave_shl}
use Rattle.port_transparency.proofs.shl_into.Goals as goal

pub slice_bounds-emit_shl-end-2 : goal.slice_bounds-emit_shl-end-2
slice_bounds-emit_shl-end-2 c = sym (length-take-le _ _ (omega (arith, c.requires.3, c.store_zext.auto.out)))

pub returns : goal.returns
returns c =
    let v = c.args in
    let p = c.emit_shl in
    let z = c.store_zext.new.out in
    gave_shl v.select.now v.v.now (take v.n z) v.n (lent_of v.log.now) (lent_of p.new.self) v.out.now c.store_run.new.to c.requires.0
    (zext_stored v.z.now z v.v.now v.n v.n c.store_zext.ensures (length_zext v.v.now v.n c.requires.0) c.requires.3) p.ensures c.store_run.ensures c.requires.2
