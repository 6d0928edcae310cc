-- `port_outputs::port_missing` meets its contract.
use Rattle.std.proofs.Common.{◌∙◌, ℕ, sym}
use Rattle.net_memory.proofs.Sized.{reads_length}
use Rattle.port_outputs.proofs.Outputs.{missing_by}
use Rattle.port_outputs.proofs.port_missing.Goals as goal

pub returns : goal.returns
returns c =
    let v = c.args in
    let m : ℕ = c.ports_used-count.result in
    λ nets trits. c.any_past.ensures ∙ missing_by v.m nets trits v.list.now m (c.ports_used-count.ensures.0 ∙ sym (reads_length v.m _ c.well_formed.0 nets trits))
