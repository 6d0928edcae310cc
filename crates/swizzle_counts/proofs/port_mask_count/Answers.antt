-- `swizzle_counts::port_mask_count` meets its contract.
use Rattle.std.proofs.Common.{length, arith}
use Rattle.swizzle_counts.proofs.Masks.{mask_fits}
use Rattle.swizzle_counts.proofs.port_mask_count.Goals as goal

pub mask_count-requires : goal.mask_count-requires
mask_count-requires c =
    let k = c in
    mask_fits _ (length k.args.entries.now) _ k.requires.0 k.requires.1 k.requires.2 (omega arith) c.product-n.ensures.0
