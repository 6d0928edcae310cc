-- `net_logic::write_not` meets its contract.
use Rattle.std.proofs.Common.{ap, set, ◌∙◌, arith}
use Rattle.lists.proofs.Maps.{map_turn, map_done}
use Rattle.rules.specs.Logic.{trit_of, code_of, trit_not, const_not}
use Rattle.net_logic.proofs.write_not.Goals as goal

pub loop-i-preserved : goal.loop-i-preserved
unfolding const_not
loop-i-preserved c =
    let l = c.loop-i in
    ap (set l.out l.i) c.code_not.ensures
    ∙ map_turn (λ t. code_of (trit_not (trit_of t))) c.args.a.now c.args.out.now l.out 0 l.i l.invariant 0 l.i (omega arith) (omega arith)

pub returns : goal.returns
unfolding const_not
returns c =
    let l = c.loop-i in
    map_done (λ t. code_of (trit_not (trit_of t))) c.args.a.now c.args.out.now l.out 0 l.i l.invariant (omega arith)
