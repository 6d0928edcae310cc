-- The invariants of `swizzle_sizes::bits_of`.
use Rattle.std.proofs.Common.{◌≡◌, ℕ, ◌+◌, ◌-◌, ◌<◌, ◌≤◌, map, length, get_or}
use Rattle.lists.specs.Lists.{pairs}
use Rattle.swizzle_plan.specs.Numbers.{in_eight}
use Rattle.swizzle_sizes.proofs.Turns.{left}
use Rattle.swizzle_sizes.proofs.bits_of.Given as goal

abbrev pub invariant-loop-i : goal.invariant-loop-i
invariant-loop-i g l =
    let ports = l.i-iterator.iter.a.rest.now in
    let news = l.i-iterator.iter.b.rest.now in
    goal.F-IsAlwaysCallable g l.old
    × (l.i-iterator.count + length ports ≤ 8)
    × ((j : ℕ) → j < length news → get_or news j 0 ≤ 4)
    × ((f : ℕ → ℕ) → ((x r : ℕ) → goal.F-post g l.fn.old x r → r ≡ f x) → left l.base f l.bits l.i-iterator.count ports news ≡ in_eight (map (λ (x : ℕ × ℕ). l.base + x.1 - x.0) (pairs (map f l.ports) l.news)))
