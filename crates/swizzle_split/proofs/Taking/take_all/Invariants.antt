-- The invariants of `swizzle_split::Taking::take_all`.
use Rattle.swizzle_split.proofs.Takes.{On}
use Rattle.swizzle_split.proofs.Taking.take_all.Given as goal

abbrev pub invariant-loop-net : goal.invariant-loop-net
invariant-loop-net l = On l.addr l.initial.hw l.initial.mux l.fn.self l.hw l.mux l.t l.net-index
