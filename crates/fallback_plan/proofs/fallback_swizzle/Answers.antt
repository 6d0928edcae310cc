-- `fallback_plan::fallback_swizzle` meets its contract.
use mathlib.Core.Path.{refl}
use native.Mathlib.Omega.{arith}
use Rattle.net_memory.proofs.Sized.{writes_length, reads_length}
use Rattle.fallback_plan.proofs.Logs.{plan_is, most_is}
use Rattle.fallback_plan.proofs.fallback_swizzle.Goals as goal

pub overflow_sub-result : goal.overflow_sub-result
overflow_sub-result c = omega (arith, c.two_to-rows.ensures.positive)

pub overflow_cast-result : goal.overflow_cast-result
overflow_cast-result c = omega (arith, c.two_to-rows.ensures.most)

pub returns : goal.returns
returns c =
    let g = c.args.given in
    λ trits.
    let k = most_is g.memory g.nets.now trits _ _ _ (c.largest_write.ensures trits) (c.largest_read.ensures g.nets.now trits) c.max-widest.ensures in
    plan_is g.memory g.nets.now trits _ _ c.two_to-rows.result k c.two_to-rows.ensures.value refl refl refl (writes_length g.memory _ c.well_formed.0.1.1.0 g.nets.now) (reads_length g.memory _ c.well_formed.0.1.1.0 g.nets.now trits)
