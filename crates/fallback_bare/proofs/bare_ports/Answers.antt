-- `fallback_bare::bare_ports` meets its contract.
use borrow.Author.Rules.{rules}
use Rattle.fallback_bare.proofs.Bare.{by_place}
use Rattle.fallback_bare.proofs.bare_ports.Goals as goal

pub returns : goal.returns
returns c = by_place c.args.ports c.map.result 8 c.well_formed.0.1.0.1 c.map.ensures.items.long (λ i d e h. let z = (c.map.ensures.items.at i d e h).2 in search rules)
