-- `try_kit::nets::spoil` meets its contract.
use mathlib.Core.Path.{ap, ◌∙◌}
use Prim.Native.Nat.{◌-◌}
use lib.ListN.{set}
use borrow.Author.Tests.{lt-ltb, le-ltb}
use Rattle.try_kit.proofs.nets.spoil.Goals as goal

pub returns-then-n-gt0 : goal.returns-then-n-gt0
returns-then-n-gt0 c =
    let p = c in
    let a = p.args in
    rw (lt-ltb _ _ p.if-n-gt0.true) (p.put.ensures ∙ ap (set a.s.now (a.n - 1)) p.bad_net.ensures)

pub returns-else-n-gt0 : goal.returns-else-n-gt0
returns-else-n-gt0 c = rw (le-ltb _ _ c.if-n-gt0.false)
