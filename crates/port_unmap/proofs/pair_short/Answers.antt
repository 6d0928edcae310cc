-- `port_unmap::pair_short` meets its contract.
use Rattle.std.proofs.Common.{rules}
use Rattle.net_memory.specs.Given.{mem_of}
use Rattle.port_unmap.proofs.Short.{short_is, pair_like}
use Rattle.port_unmap.proofs.pair_short.Goals as goal

pub returns : goal.returns
returns c =
    let g = c.args.given in
    λ trits p e.
    pair_like g.memory g.nets.now trits g.trits.now p _ c.args.j _ e.0 (λ q. let l = short_is (mem_of g) p in search rules)
