-- `fallback_plan::largest_by` meets its contract.
use native.Mathlib.Omega.{arith}
use Rattle.fallback_plan.proofs.Logs.{most_turn, most_end}
use Rattle.fallback_plan.proofs.largest_by.Goals as goal

pub loop-port-preserved : goal.loop-port-preserved
loop-port-preserved g c =
    let l = c.loop-port in
    (l.invariant.0, λ logs n is. most_turn logs l.port l.most _ _ (omega (arith, n, c.loop-port-test.true)) (l.invariant.1 logs n is) (is l.port _ c.loop-port-test.true c.log.ensures) c.max-most.ensures)

pub returns : goal.returns
returns g c =
    let l = c.loop-port in
    λ logs n is. most_end logs l.port l.most (omega (arith, n, c.loop-port-test.false)) (l.invariant.1 logs n is)
