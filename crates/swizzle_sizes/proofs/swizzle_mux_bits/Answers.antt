-- `swizzle_sizes::swizzle_mux_bits` meets its contract.
use Rattle.std.proofs.Common.{ap, ◌∙◌}
use Rattle.swizzle_plan.specs.Calls.{plan_of}
use Rattle.swizzle_plan.specs.Numbers.{in_eight}
use Rattle.swizzle_sizes.proofs.Refused.{mux_planned, ports_few, writes_small, reads_small, write_bits, read_bits}
use Rattle.net_memory.specs.Given.{given_of}
use Rattle.swizzle_sizes.proofs.Answered.{bits_ok}
use Rattle.std.proofs.Common.{arith}
use Rattle.swizzle_sizes.proofs.swizzle_mux_bits.Goals as goal

pub write_bits-requires : goal.write_bits-requires
write_bits-requires c =
    let v = c.args in
    record { base_small = omega (arith, c.shared_bits-base.ensures.upper_bound); news_small = writes_small v.given.memory v.given.nets.now v.given.trits.now v.ports.now v.plan.swizzle v.plan.entries.now v.plan.writes.now v.plan.reads.now (mux_planned v.given.memory v.given.nets.now v.given.trits.now v.ports.now (plan_of v.plan.swizzle v.plan.entries.now v.plan.writes.now v.plan.reads.now) c.in_ok-mux_refusal.ensures) }

pub read_bits-requires : goal.read_bits-requires
read_bits-requires c =
    let v = c.args in
    let z = mux_planned v.given.memory v.given.nets.now v.given.trits.now v.ports.now (plan_of v.plan.swizzle v.plan.entries.now v.plan.writes.now v.plan.reads.now) c.in_ok-mux_refusal.ensures in
    record { few = ports_few v.given.memory v.given.nets.now v.given.trits.now v.ports.now v.plan.swizzle v.plan.entries.now v.plan.writes.now v.plan.reads.now z; small = record { base_small = omega (arith, c.shared_bits-base.ensures.upper_bound); news_small = reads_small v.given.memory v.given.nets.now v.given.trits.now v.ports.now v.plan.swizzle v.plan.entries.now v.plan.writes.now v.plan.reads.now z } }

pub returns : goal.returns
returns c =
    let v = c.args in
    let b = c.shared_bits-base.ensures.by_index v.plan.entries.now in
    bits_ok (given_of v.given.memory v.given.nets.now v.given.trits.now) v.ports.now (plan_of v.plan.swizzle v.plan.entries.now v.plan.writes.now v.plan.reads.now) _ _ c.in_ok-mux_refusal.ensures
    (c.write_bits.ensures ∙ ap in_eight (write_bits v.given.memory v.given.nets.now v.given.trits.now v.plan.swizzle v.plan.entries.now v.plan.writes.now v.plan.reads.now _ b))
    (c.read_bits.ensures ∙ ap in_eight (read_bits v.given.memory v.given.nets.now v.given.trits.now v.plan.swizzle v.plan.entries.now v.plan.writes.now v.plan.reads.now _ b v.ports.now))
