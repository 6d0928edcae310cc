-- The invariants of `net_logic::trits_good`.
use Rattle.net_logic.proofs.Codes.{Most}
use Rattle.net_logic.proofs.trits_good.Given as goal

abbrev pub invariant-loop-code : goal.invariant-loop-code
invariant-loop-code l = Most l.a l.most l.code-index
