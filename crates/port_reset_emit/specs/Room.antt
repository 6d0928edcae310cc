-- The room of a mask and that of an unmapping, before anything is stored in it.
use Rattle.merge_keys.specs.Keys.{zeros}
use Rattle.merge_dff.specs.Room.{zero_trits}
use Rattle.port_transparency.specs.Room.{zero_overlay}
use Rattle.port_reset_emit.specs.declared.Mask.{Mask}
use Rattle.port_reset_emit.specs.declared.Room.{Room}

unfoldable pub zero_mask : Mask
zero_mask = record { over = zeros; trits = zero_trits; ones = zeros; starts = zeros }

unfoldable pub zero_room : Room
zero_room = record { overlay = zero_overlay; mask = zero_mask }
