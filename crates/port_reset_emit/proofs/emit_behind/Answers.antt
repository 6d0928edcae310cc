-- `port_reset_emit::emit_behind` meets its contract.
use mathlib.Core.Path.{ap}
use mathlib.Core.Bool.{not}
use native.Mathlib.Omega.{arith}
use lib.ListN.{take}
use lib.Seq.{length-take-le}
use Rattle.rules.specs.Logic.{is_undef}
use Rattle.log_entries.specs.View.{lent_of}
use Rattle.net_flip_flop.specs.View.{controls_of}
use Rattle.port_overlay.specs.Laid.{with_bits}
use Rattle.port_reset_emit.specs.Behind.{mask_of}
use Rattle.port_reset_emit.proofs.Behind.{mask_initial, behind_gave}
use Rattle.port_reset_emit.proofs.emit_behind.Goals as goal

pub returns : goal.returns
returns c =
    let v = c.args in
    let s = v.overlay.now in
    let p1 = c.dff_into in
    let p2 = c.emit_mask in
    let p3 = c.void_into in
    let p4 = c.emit_choice in
    let i = not (is_undef v.f.init.now) in
    let m = take v.n v.mask.now.over in
    let l1 = lent_of p1.new.log in
    let l2 = lent_of p2.new.log in
    let k = take v.n p2.new.overlay.mask in
    behind_gave (with_bits v.f (take v.n s.under)) (mask_of v.f v.n m) v.n v.f.bits.now (lent_of v.log.now) l1 l2 (lent_of p3.new.log) (lent_of p4.new.log) (take v.n p1.new.out) k (take v.n p3.new.out)
    (rw (length-take-le v.n s.under (omega arith)) at (p1.ensures (omega (arith, length-take-le v.n s.under (omega arith))))) (mask_initial (controls_of v.f.controls) _ i v.n m k l1 l2 (ap not c.is_undef-initial.ensures) p2.ensures.mask_after) (p3.ensures (omega arith)) (rw p2.ensures.data_stays at p4.ensures)
