-- `image_state::Laid::unset` meets its contract.
use mathlib.Core.Path.{refl}
use Rattle.image_state.proofs.Laying.{unset_none}
use Rattle.image_state.proofs.Laid.unset.Goals as goal

pub returns : goal.returns
returns c = record { value = refl; result_value = unset_none }
