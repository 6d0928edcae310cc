-- `merge_mux::emit::spread_nets` meets its contract.
use mathlib.Core.Path.{ap, ◌∙◌}
use Prim.Native.Nat.{ℕ}
use native.Mathlib.Omega.{arith}
use lib.ListN.{length-take, get_or}
use lib.Seq.{get_or-take}
use Rattle.merge_mux.proofs.Spread.{length_spread, spread_turn}
use Rattle.lists.specs.Lists.{up_from}
use Rattle.rules.specs.Limits.{X}
use Rattle.rules.specs.Merge.{spread}
use Rattle.lists.proofs.Store.{copy_done}
use Rattle.lists.proofs.Mids.{sets_from}
use Rattle.merge_mux.proofs.emit.spread_nets.Goals as goal

pub loop-i-preserved : goal.loop-i-preserved
loop-i-preserved c =
    let v = c.args in
    let l = c.loop-i in
    let room = length-take c.min-n.result v.at.now in
    let nets = up_from v.first v.width in
    let n = c.net_at.ensures ∙ ap (λ (p : ℕ). get_or nets p X) (get_or-take c.min-n.result v.at.now l.i 0 (omega (arith, room))) in
    spread_turn v.out.now l.out v.at.now c.min-start.result nets l.i l.invariant _ (omega (arith, room)) n

pub returns : goal.returns
returns c =
    let v = c.args in
    let l = c.loop-i in
    let room = length-take c.min-n.result v.at.now in
    copy_done v.out.now l.out c.min-start.result l.i (spread v.at.now (up_from v.first v.width)) l.invariant (omega (arith, room, length_spread v.at.now (up_from v.first v.width)))
    ∙ sets_from v.out.now (spread v.at.now (up_from v.first v.width)) v.to c.min-start.result c.min-start.ensures
