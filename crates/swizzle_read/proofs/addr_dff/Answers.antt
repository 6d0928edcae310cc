-- `swizzle_read::addr_dff` meets its contract.
use mathlib.Core.Path.{ap, ◌∙◌}
use Rattle.rules.specs.Cell.{FlipFlop}
use Rattle.rules.specs.Log.{add_dff_of}
use Rattle.net_flip_flop.specs.View.{controls_of}
use Rattle.log_entries.specs.Emission.{run}
use Rattle.log_entries.specs.View.{lent_of}
use Rattle.swizzle_read.proofs.Steps.{addr_dff_is}
use Rattle.swizzle_read.proofs.addr_dff.Goals as goal

pub returns : goal.returns
returns c =
    let v = c.args in
    c.emit_dff.ensures ∙ ap (λ (f : FlipFlop). run (add_dff_of f) (lent_of v.log.now)) (addr_dff_is v.mux.now v.port v.xs.now (controls_of c.addr_controls.result) c.requires c.addr_controls.ensures)
