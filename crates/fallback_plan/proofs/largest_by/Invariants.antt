-- The invariants of `fallback_plan::largest_by`.
use Rattle.std.proofs.Common.{◌≡◌, ℕ, ◌<◌, List, length, get_or}
use Rattle.fallback_plan.proofs.Logs.{Most}
use Rattle.fallback_plan.proofs.largest_by.Given as goal

abbrev pub invariant-loop-port : goal.invariant-loop-port
invariant-loop-port g l =
    goal.F-IsAlwaysCallable g l.log
    × ((logs : List ℕ) → length logs ≡ l.fn.count → ((port found : ℕ) → port < l.fn.count → goal.F-post g l.fn.log port found → found ≡ get_or logs port 0) → Most logs l.port l.most)
