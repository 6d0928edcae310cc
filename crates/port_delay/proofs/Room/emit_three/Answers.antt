-- `port_delay::Room::emit_three` meets its contract.
use mathlib.Core.Path.{refl, ap}
use native.Mathlib.Omega.{arith}
use lib.ListN.{length}
use Rattle.net_value.specs.View.{control_of}
use Rattle.net_memory.specs.Ports.{write_of}
use Rattle.log_entries.specs.View.{lent_of}
use Rattle.port_delay.proofs.Delay.{three_port}
use Rattle.port_delay.proofs.Room.emit_three.Goals as goal

pub emit_plain-requires : goal.emit_plain-requires
emit_plain-requires c = omega (arith, ap length c.addr-addr.ensures, c.requires.short)

pub emit_plain-requires-2 : goal.emit_plain-requires-2
emit_plain-requires-2 c = omega (arith, ap length c.bits-bits.ensures.0, c.requires.few)

pub emit_mask-requires : goal.emit_mask-requires
emit_mask-requires c = omega (arith, ap length c.mask.ensures, c.requires.masked, c.requires.few)

pub returns : goal.returns
returns c =
    let v = c.args in
    let a = c.emit_plain in
    let d = c.emit_plain-2 in
    let k = c.emit_mask in
    rw (k.ensures.addr_stays, k.ensures.bits_stay)
    (three_port v.all_x (write_of v.w) c.addr-addr.result.now c.bits-bits.result.now c.mask.result.now (control_of v.w.port.clock) c.addr-addr.ensures c.bits-bits.ensures.0 c.mask.ensures refl (lent_of v.log.now) (lent_of a.new.log) a.new.out d.new.out k.new.self.mask (lent_of d.new.log) (lent_of k.new.log) c.requires.masked a.ensures d.ensures k.ensures.mask_after)
