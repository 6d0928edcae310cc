-- The invariants of `swizzle_pieces::Pieces::load_pieces`.
use Rattle.lists.specs.Lists.{up_from}
use Rattle.swizzle_pieces.specs.Steps.{size_of, load_each}
use mathlib.Core.Path.{◌≡◌}
use Prim.Native.Nat.{◌-◌, ◌*◌}
use Rattle.swizzle_pieces.proofs.Pieces.load_pieces.Given as goal

abbrev pub invariant-loop-x : goal.invariant-loop-x
invariant-loop-x l = load_each l.self l.entries (up_from l.x (l.self.count - l.x)) (l.x * size_of l.self) l.scratch ≡ load_each l.self l.entries (up_from 0 l.self.count) 0 l.initial.scratch
