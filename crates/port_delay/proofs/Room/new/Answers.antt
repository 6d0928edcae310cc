-- `port_delay::Room::new` meets its contract.
use mathlib.Core.Path.{ap, ◌∙◌}
use Rattle.merge_keys.specs.Keys.{zeros, zero_keys}
use Rattle.merge_keys.specs.declared.Keys.{Keys}
use Rattle.merge_dff.specs.declared.Trits.{Trits}
use Rattle.port_delay.specs.Room.{zero_room}
use Rattle.port_delay.specs.declared.Room.{Room}
use Rattle.port_delay.proofs.Room.new.Goals as goal

pub returns : goal.returns
unfolding zero_room
returns c =
    ap {B = Room} (λ (k : Keys). record { addr = zeros; bits = zeros; mask = zeros; starts = zeros; keys = k; trits = c.new-2.result }) c.new.ensures
    ∙ ap {B = Room} (λ (t : Trits). record { addr = zeros; bits = zeros; mask = zeros; starts = zeros; keys = zero_keys; trits = t }) c.new-2.ensures
