-- `port_settle::change_first` meets its contract.
use native.Mathlib.Omega.{arith}
use lib.ListN.{take, length-set}
use Rattle.port_settle.proofs.Changed.{change_turn, change_end}
use Rattle.port_settle.proofs.change_first.Goals as goal

pub loop-j-preserved : goal.loop-j-preserved
loop-j-preserved g c =
    let h = c.loop-j in
    let v = c.args in
    (simp length-set h.invariant.0, λ f e. change_turn f c.x-item.result (take v.count v.list.now) h.x-items h.j c.change.result (h.invariant.1 f e) (e _ _ _ c.change.ensures))

pub returns : goal.returns
returns g c =
    let h = c.loop-j in
    λ f e. change_end f c.args.list.now h.x-items h.j c.args.count (h.invariant.1 f e) (omega (arith, h.invariant.0))
