-- The room of a delayed port before anything is stored in it.
use Rattle.merge_keys.specs.Keys.{zeros, zero_keys}
use Rattle.merge_dff.specs.Room.{zero_trits}
use Rattle.port_delay.specs.declared.Room.{Room}

unfoldable pub zero_room : Room
zero_room = record { addr = zeros; bits = zeros; mask = zeros; starts = zeros; keys = zero_keys; trits = zero_trits }
