-- `swizzle_parts::memories::Memories::own` meets its contract.
use Rattle.std.proofs.Common.{◌*◌}
use Rattle.swizzle_parts.proofs.Powers.{power_of, product_4096}
use Rattle.swizzle_parts.proofs.memories.Memories.own.Goals as goal

pub returns : goal.returns
returns c =
    let v = c.args in
    let q = power_of c.two_to.result v.wide c.two_to.ensures.value c.requires in
    (λ i. q.0 i * v.self.g.unit, product_4096 c.two_to.result v.self.g.unit q.1 v.self.small.unit_small)
