-- `port_reset_emit::Room::new` meets its contract.
use Rattle.port_reset_emit.specs.Room.{zero_room}
use Rattle.port_reset_emit.proofs.Room.new.Goals as goal

pub returns : goal.returns
unfolding zero_room
returns c = λ i. record { overlay = c.new.ensures i; mask = c.new-2.ensures i }
