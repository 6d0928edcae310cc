-- `net_check::parts_refusal` meets its contract.
use mathlib.Core.Path.{◌∙◌}
use Prim.Native.Nat.{ℕ}
use mathlib.Core.List.{List}
use Rattle.lists.specs.Choice.{least}
use Rattle.net_memory.specs.View.{memory_of}
use Rattle.net_check.proofs.Numbers.{parts_number}
use Rattle.net_check.proofs.parts_refusal.Goals as goal

pub returns : goal.returns
unfolding memory_of
returns c =
    let v = c.args in
    let n : List ℕ = v.given.nets.now in
    let t : List ℕ = v.given.trits.now in
    c.lower-2.ensures
    ∙ (λ k. least (c.init_refusal-a.ensures k) ((c.lower.ensures ∙ (λ j. least (c.writes_refusal-b.ensures t j) (c.reads_refusal.ensures j))) k))
    ∙ parts_number v.next (memory_of v.given.memory n t)
