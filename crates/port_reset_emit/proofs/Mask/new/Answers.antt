-- `port_reset_emit::Mask::new` meets its contract.
use mathlib.Core.Path.{ap}
use Rattle.merge_keys.specs.Keys.{zeros}
use Rattle.merge_dff.specs.declared.Trits.{Trits}
use Rattle.port_reset_emit.specs.Room.{zero_mask}
use Rattle.port_reset_emit.specs.declared.Mask.{Mask}
use Rattle.port_reset_emit.proofs.Mask.new.Goals as goal

pub returns : goal.returns
unfolding zero_mask
returns c = ap {B = Mask} (λ (t : Trits). record { over = zeros; trits = t; ones = zeros; starts = zeros }) c.new.ensures
