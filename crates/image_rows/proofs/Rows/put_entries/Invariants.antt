-- The invariants of `image_rows::Rows::put_entries`.
use Prim.Native.Nat.{◌-◌, ◌≤◌}
use mathlib.Core.Path.{◌≡◌}
use lib.ListN.{length, drop}
use Rattle.rules.specs.Image.{put_row}
use Rattle.image_rows.specs.Steps.{after, index_from}
use Rattle.image_rows.proofs.Rows.put_entries.Given as goal

abbrev pub invariant-loop-i : goal.invariant-loop-i
invariant-loop-i l =
    let es = l.self.layout.entries.now in
    let f = index_from l.self.steps l.initial.c in
    (l.i ≤ length es) × (length l.image ≡ length l.initial.image) × (l.c ≡ after l.self.steps l.initial.c l.i)
    × (put_row f (drop l.i es) l.i l.trits l.image ≡ put_row f es 0 l.trits l.initial.image)

abbrev pub decreases-loop-i : goal.decreases-loop-i
decreases-loop-i l = length l.self.layout.entries.now - l.i
