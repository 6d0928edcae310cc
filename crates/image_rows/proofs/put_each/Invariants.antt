-- The invariants of `image_rows::put_each`.
use Prim.Native.Nat.{ℕ, ◌+◌, ◌-◌}
use mathlib.Core.Path.{◌≡◌}
use lib.ListN.{drop}
use Rattle.rules.specs.Image.{put_row}
use Rattle.image_rows.specs.Steps.{Follows}
use Rattle.image_rows.proofs.put_each.Given as goal

abbrev pub invariant-loop-i : goal.invariant-loop-i
invariant-loop-i l =
    (f : ℕ → ℕ) → Follows f l.from l.at (l.to - l.from) → put_row f (drop (l.from + l.i) l.entries) (l.from + l.i) l.trits l.image ≡ put_row f (drop l.from l.entries) l.from l.trits l.initial.image
