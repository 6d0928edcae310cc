-- `c_port::tablegoose_transparency_mux` meets its contract.
use lib.ListN.{length, take}
use Rattle.std.specs.Prelude.{is_some}
use Rattle.port_mux.specs.Call.{overlay_of, given_mask}
use Rattle.c_port.proofs.Overlaid.{overlay_left, wanted_is, handed_is}
use Rattle.c_port.proofs.tablegoose_transparency_mux.Goals as goal

pub returns : goal.returns
returns c =
    let v = c.args in
    let m = c.then_some.result in
    let d = c.transparency_mux-r in
    let g = c.given_by-given in
    let n = length v.bits.now in
    let e = c.then_some.ensures in
    let x = overlay_left (overlay_of (is_some m) (take n d.new.bits_to) (take n d.new.mask_to)) v.st c.answer_struct.result d.result d.new.log d.new.bits_to d.new.mask_to v.bits_to.now v.mask_to.now v.log.now _ v.read v.write (overlay_of (is_some m) v.bits.now (given_mask m))
    c.answer_struct.ensures (rw (g.ensures.0, g.ensures.1, g.ensures.2) at d.ensures) in
    rw (handed_is v.masked v.mask m v.bits.now e) at (rw (wanted_is v.masked v.mask m e) at x)
