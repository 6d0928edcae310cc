-- `fallback::lower_made` meets its contract.
use mathlib.Core.Path.{ap, ◌∙◌}
use Rattle.rules.specs.Log.{Trace}
use Rattle.log_entries.specs.Emission.{run}
use Rattle.log_entries.specs.View.{lent_of}
use Rattle.swizzle_parts.proofs.Sized.{write_ports_8, read_ports_8}
use Rattle.fallback.proofs.Made.{made_lowered}
use Rattle.fallback.proofs.lower_made.Goals as goal

pub returns : goal.returns
returns c =
    let v = c.args in
    c.emit_lowered.ensures
    ∙ ap (λ (u : Trace Unit). run u (lent_of v.log.now)) (made_lowered v.g v.nets.now v.image.now c.requires (write_ports_8 v.g _ c.well_formed.1.0) (read_ports_8 v.g _ c.well_formed.1.0))
