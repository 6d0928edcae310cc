-- `port_unmap::reading` meets its contract.
use mathlib.Core.Path.{ap, ◌∙◌}
use Rattle.rules.specs.Cell as rules
use Rattle.port_unmap.proofs.Emitted.{wide_from}
use Rattle.port_unmap.proofs.reading.Goals as goal

pub returns : goal.returns
returns c =
    λ v r ew er.
    let d = ap (λ (p : rules.ReadPort). p.data_len) er in
    ((wide_from v r c.args.width _ _ ew c.wide_log.ensures.0 d, c.addr.ensures ∙ ap (λ (p : rules.ReadPort). p.addr) er), d)
