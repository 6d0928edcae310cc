-- `try_kit::spoilt::set_trits` meets its contract.
use Prim.Native.Nat.{ℕ}
use mathlib.Core.Path.{ap, ◌∙◌}
use mathlib.Core.List.{List}
use lib.ListN.{set}
use Rattle.try_kit.proofs.spoilt.set_trits.Goals as goal

pub returns-then-bad : goal.returns-then-bad
returns-then-bad c =
    let b = c in
    let f = b in
    rw b.if-bad.true (c.put.ensures ∙ ap (λ (l : List ℕ). set l f.args.place 3) f.fill_trits.ensures)

pub returns-else-bad : goal.returns-else-bad
returns-else-bad c = rw c.if-bad.false c.fill_trits.ensures
