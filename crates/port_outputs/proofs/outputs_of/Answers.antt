-- `port_outputs::outputs_of` meets its contract.
use mathlib.Core.Path.{◌∙◌}
use native.Mathlib.Omega.{arith}
use Rattle.net_memory.proofs.Sized.{reads_length}
use Rattle.port_outputs.proofs.Outputs.{all_outputs}
use Rattle.port_outputs.proofs.outputs_of.Goals as goal

pub returns : goal.returns
returns c =
    let m = c.args.m in
    λ nets trits. c.output_start.ensures.by_index nets trits ∙ all_outputs m nets trits (omega (arith, reads_length m _ c.well_formed.0 nets trits))
