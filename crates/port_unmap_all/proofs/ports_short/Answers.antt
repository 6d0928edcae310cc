-- `port_unmap_all::ports_short` meets its contract.
use native.Mathlib.Omega.{arith}
use mathlib.Core.Path.{refl, sym, ◌∙◌}
use Rattle.std.proofs.Common.{rules, tests, ℕ}
use Rattle.std.proofs.lemmas.Iterator.{YieldsList-from_range}
use Rattle.std.proofs.lemmas.Iterator.Search.{any_from_yields_List}
use Rattle.rules.specs.Cell.{read_at_of}
use Rattle.rules.specs.Conditions.{short_port}
use Rattle.net_memory.specs.View.{memory_of}
use Rattle.net_memory.proofs.Sized.{reads_length}
use Rattle.port_unmap_all.proofs.Short.{reads_are, ports_are}
use Rattle.port_unmap_all.proofs.ports_short.Goals as goal

pub returns : goal.returns
returns c =
    let g = c.args.given in
    λ trits.
    let m = memory_of g.memory g.nets.now trits in
    any_from_yields_List (λ (i : ℕ). short_port m (read_at_of m i)) _ _ _ c.any.ensures.ran (YieldsList-from_range 0 c.ports_used.result c.ports_used.result refl (omega arith)) (λ x b q k. search (rules, tests))
    ∙ ports_are m _ (c.ports_used.ensures.0 ∙ sym (reads_are g.memory g.nets.now trits (reads_length g.memory _ c.well_formed.0.1.1.0 g.nets.now trits)))
