-- `port_mux::room_refusal` meets its contract.
use mathlib.Core.Path.{sym, ◌∙◌}
use lib.ListN.{length}
use Rattle.std.specs.Prelude.{is_some}
use Rattle.port_mux.specs.Call.{given_mask}
use Rattle.port_mux.proofs.Numbers.{room_bits, room-plain, room_mask, room_both}
use Rattle.port_mux.proofs.room_refusal.Goals as goal
use Rattle.port_mux.proofs.room_refusal.Goals.{else-is_some-via-then-is_some+else-mask_room-o, else-is_some-via-else-is_some}

pub returns-then-data_room-o : goal.returns-then-data_room-o
returns-then-data_room-o c =
    let v = c.args in
    room_bits v.data_room v.mask_room (length v.o.bits.now) (is_some v.o.mask) v.o.bits.now (given_mask v.o.mask) c.if-data_room-o.true

pub returns-then-mask_room-o : goal.returns-then-mask_room-o
returns-then-mask_room-o c =
    let v = c.args in
    room_mask v.data_room v.mask_room (length v.o.bits.now) (is_some v.o.mask) v.o.bits.now (given_mask v.o.mask) c.if-data_room-o.false (sym c.is_some.ensures ∙ c.if-is_some.true) c.if-mask_room-o.true

pub returns : goal.returns
returns c =
    let v = c.args in
    elim c.else-is_some.branch [
      | else-is_some-via-then-is_some+else-mask_room-o w ↦ room_both v.data_room v.mask_room (length v.o.bits.now) (is_some v.o.mask) v.o.bits.now (given_mask v.o.mask) c.if-data_room-o.false (sym c.is_some.ensures ∙ w.if-is_some.true) w.if-mask_room-o.false
      | else-is_some-via-else-is_some w ↦ room-plain v.data_room v.mask_room (length v.o.bits.now) (is_some v.o.mask) v.o.bits.now (given_mask v.o.mask) c.if-data_room-o.false (sym c.is_some.ensures ∙ w.if-is_some.false)
    ]
