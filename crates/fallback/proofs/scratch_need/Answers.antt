-- `fallback::scratch_need` meets its contract.
use Prim.Native.Nat.{◌*◌}
use native.Mathlib.Omega.{arith}
use Rattle.fallback.proofs.Numbers.{need_small}
use Rattle.fallback.proofs.scratch_need.Goals as goal

pub overflow_mul-result-2 : goal.overflow_mul-result-2
overflow_mul-result-2 c =
    omega (arith, need_small c.ports_used.result (c.args.m.depth * c.args.m.width) c.ports_used.ensures.1 c.requires)

pub returns : goal.returns
returns c = λ i. 2 * c.ports_used.ensures.0 i * (c.args.m.depth * c.args.m.width)
