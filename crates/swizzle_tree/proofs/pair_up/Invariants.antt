-- The invariants of `swizzle_tree::pair_up`.
use Prim.Native.Nat.{◌-◌, ◌+◌}
use Rattle.log_entries.specs.View.{lent_of}
use Rattle.swizzle_tree.proofs.Pairing.{Going}
use Rattle.swizzle_tree.proofs.pair_up.Given as goal

abbrev pub invariant-loop : goal.invariant-loop
invariant-loop l = Going l.bit l.width l.count l.initial.pieces l.pieces (lent_of l.initial.log) (lent_of l.log) (l.count - (l.counter + l.counter)) l.from l.to
