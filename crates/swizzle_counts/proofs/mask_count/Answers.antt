-- `swizzle_counts::mask_count` meets its contract.
use mathlib.Core.Path.{refl}
use native.Mathlib.Omega.{arith}
use lib.ListN.{replicate}
use Rattle.swizzle_counts.proofs.Masks.{row_size, counted}
use Rattle.swizzle_counts.proofs.mask_count.Goals as goal

pub slice_bounds-row-end : goal.slice_bounds-row-end
slice_bounds-row-end c =
    omega (arith, c.requires.few, row_size c.args.w c.args.n c.args.entries.now c.args.mask.now (replicate 4096 0) c.requires refl _ c.mask_row.ensures)

pub returns : goal.returns
returns c =
    let v = c.args in
    counted v.w v.n v.entries.now v.mask.now (replicate 4096 0) c.requires refl _ c.mask_row.ensures (replicate 4096 0) refl c.merge.result c.merge.ensures
