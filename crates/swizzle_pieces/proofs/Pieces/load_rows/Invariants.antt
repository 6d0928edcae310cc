-- The invariants of `swizzle_pieces::Pieces::load_rows`.
use Rattle.lists.specs.Lists.{up_from}
use Rattle.swizzle_pieces.specs.Steps.{start_of, guard_rows}
use mathlib.Core.Path.{◌≡◌}
use Prim.Native.Nat.{◌-◌}
use lib.ListN.{length}
use Rattle.swizzle_pieces.proofs.Pieces.load_rows.Given as goal

abbrev pub invariant-loop-j : goal.invariant-loop-j
invariant-loop-j l =
    let n = l.self in
    let start = start_of n (length l.entries) l.x in
    guard_rows start l.at n.width l.entries n.first (up_from l.j (n.rows - l.j)) l.scratch ≡ guard_rows start l.at n.width l.entries n.first (up_from 0 n.rows) l.initial.scratch
