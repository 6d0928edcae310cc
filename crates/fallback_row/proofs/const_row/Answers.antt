-- `fallback_row::const_row` meets its contract.
use mathlib.Core.Path.{ap, ◌∙◌}
use native.Mathlib.Omega.{arith}
use lib.ListN.{length-take}
use Rattle.std.proofs.lemmas.List.{get_or-take}
use Rattle.rules.specs.Value.{net_of_trit}
use Rattle.fallback_row.proofs.Register.{const_turn, const_done}
use Rattle.fallback_row.proofs.const_row.Goals as goal

pub loop-i-preserved : goal.loop-i-preserved
loop-i-preserved c =
    let l = c.loop-i in
    let init = c.args.init.now in
    let room = length-take c.min-n.result init in
    const_turn _ _ _ _ l.invariant _ (omega (arith, room)) (c.net_of_trit.ensures ∙ ap net_of_trit (get_or-take c.min-n.result init l.i 0 (omega (arith, room))))

pub returns : goal.returns
returns c =
    let l = c.loop-i in
    let room = length-take c.min-n.result c.args.init.now in
    const_done c.args.row.now l.row l.i c.args.init.now l.invariant (omega (arith, room, c.min-n.ensures))
