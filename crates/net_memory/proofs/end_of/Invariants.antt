-- The invariants of `net_memory::end_of`.
use Rattle.std.proofs.Common.{◌≡◌, ℕ, ◌+◌, ◌≤◌, ◌*◌, take}
use Rattle.lists.specs.Lists.{sum_by}
use Rattle.net_memory.proofs.end_of.Given as goal

abbrev pub invariant-loop-port : goal.invariant-loop-port
invariant-loop-port g l = record {
  value : (f : g.row.T.Denot → ℕ) → ((p : _) (n : _) → goal.F-post g l.fn.size p n → n ≡ f p) → l.at ≡ l.fn.start + sum_by f (take l.port-index l.fn.ports);
  bound : (most : ℕ) → ((p : _) (n : _) → goal.F-post g l.fn.size p n → n ≤ most) → l.at ≤ l.fn.start + l.port-index * most;
}
