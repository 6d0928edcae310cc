-- `port_unmap::pairs_short` meets its contract.
use Rattle.std.proofs.Common.{rules, tests, ◌∙◌, ℕ, ◌&&◌}
use Rattle.std.proofs.lemmas.Iterator.{YieldsList-from_slice}
use Rattle.std.proofs.lemmas.Iterator.Consumers.{YieldsList-from_enumerate}
use Rattle.std.proofs.lemmas.Iterator.Search.{any_from_yields_List}
use Rattle.rules.specs.Cell.{is_transparent}
use Rattle.rules.specs.Conditions.{short_pair}
use Rattle.net_memory.specs.View.{memory_of}
use Rattle.port_unmap.proofs.Short.{pairs_are}
use Rattle.port_unmap.proofs.pairs_short.Goals as goal

pub returns : goal.returns
returns c =
    let v = c.args in
    λ trits p e.
    any_from_yields_List (λ (q : ℕ × ℕ). is_transparent q.1 && short_pair (memory_of v.given.memory v.given.nets.now trits) p q.0) _ _ _ c.any.ensures.ran (YieldsList-from_enumerate (YieldsList-from_slice v.rels.now cc) cc) (λ x b q k. search (rules, tests))
    ∙ pairs_are (short_pair (memory_of v.given.memory v.given.nets.now trits) p) v.rels.now 0
