-- `port_transparency::Overlay::new` meets its contract.
use mathlib.Core.Path.{ap}
use Rattle.merge_keys.specs.Keys.{zeros}
use Rattle.merge_keys.specs.declared.Keys.{Keys}
use Rattle.port_transparency.specs.Room.{zero_overlay}
use Rattle.port_transparency.specs.declared.Overlay.{Overlay}
use Rattle.port_transparency.proofs.Overlay.new.Goals as goal

pub returns : goal.returns
unfolding zero_overlay
returns c = ap {B = Overlay} (λ (k : Keys). record { under = zeros; bits = zeros; mask = zeros; select = zeros; spare = zeros; keys = k }) c.new.ensures
