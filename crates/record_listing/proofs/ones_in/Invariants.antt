-- The invariants of `record_listing::ones_in`.
use Rattle.lists.specs.Lists.{sum_by, part}
use Rattle.rules.specs.Record.{bits_of}
use mathlib.Core.Path.{◌≡◌}
use Prim.Native.Nat.{◌+◌, ◌-◌, ◌*◌, ◌≤◌}
use Rattle.record_listing.proofs.ones_in.Given as goal

abbrev pub invariant-loop-j : goal.invariant-loop-j
invariant-loop-j l =
    let to = l.from + l.count in
    (l.from ≤ l.j) × (l.sum ≤ 255 * (l.j - l.from)) × (l.sum + sum_by (λ b. b) (part l.j (to - l.j) (bits_of l.array)) ≡ sum_by (λ b. b) (part l.from l.count (bits_of l.array)))
