-- `swizzle_sizes::shared_bits` meets its contract.
use Rattle.std.proofs.Common.{[], arith}
use Rattle.image_geometry.specs.View.{layout_by}
use Rattle.swizzle_sizes.proofs.Refused.{chunk_small}
use Rattle.swizzle_sizes.proofs.shared_bits.Goals as goal
use Rattle.image_geometry.proofs.Sizing.{soft_max}

pub overflow_add-result : goal.overflow_add-result
overflow_add-result c =
    omega (arith, c.chunk_mux_bits.ensures [], chunk_small (layout_by c.params.result []), c.soft_bits.ensures, soft_max c.args.plan.swizzle.soft_addr_bits_mask)

pub returns-clause-upper_bound : goal.returns-clause-upper_bound
returns-clause-upper_bound c =
    omega (arith, c.chunk_mux_bits.ensures [], chunk_small (layout_by c.params.result []), c.soft_bits.ensures, soft_max c.args.plan.swizzle.soft_addr_bits_mask)
