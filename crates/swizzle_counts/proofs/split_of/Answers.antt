-- `swizzle_counts::split_of` meets its contract.
use Rattle.std.proofs.Common.{[]}
use Rattle.image_geometry.specs.View.{layout_by}
use Rattle.swizzle_counts.proofs.Numbers.{split_or}
use Rattle.swizzle_counts.proofs.split_of.Goals as goal

pub returns : goal.returns
returns c =
    let v = c.args in
    split_or (layout_by v.p []) v.old v.new v.addr.now _ _ _ _ _ (c.split_addr.ensures []) _ _ c.unwrap_or_default.ensures
