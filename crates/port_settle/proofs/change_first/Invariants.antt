-- The invariants of `port_settle::change_first`.
use Rattle.std.proofs.Common.{◌≡◌, ℕ, length, take}
use Rattle.port_settle.specs.Settled.{first_changed}
use Rattle.port_settle.proofs.change_first.Given as goal

abbrev pub invariant-loop-j : goal.invariant-loop-j
invariant-loop-j g l =
    (length l.x-items ≡ l.count)
    × ((f : ℕ → g.row.T.Denot → g.row.T.Denot) → ((j : ℕ) (x r : _) → goal.F-post g l.fn.change j x r → r ≡ f j x) → l.x-items ≡ first_changed f 0 l.j (take l.count l.fn.list))
