-- `port_relations::relates_to` meets its contract.
use mathlib.Core.Path.{◌∙◌}
use lib.ListN.{take}
use Rattle.lists.specs.Lists.{any}
use Rattle.port_relations.specs.Clocked.{port_relates}
use Rattle.port_relations.proofs.Clocks.{relates_are}
use Rattle.port_relations.proofs.relates_to.Goals as goal

pub returns : goal.returns
returns c =
    let v = c.args in
    λ nets trits. c.any_has.ensures ∙ (λ i. any (port_relates v.code v.j) (take (c.ports_used-count.ensures.0 i) v.m.now.read_ports)) ∙ relates_are v.m.now nets trits v.code v.j
