-- `swizzle_split::all_chunks` meets its contract.
use Rattle.std.proofs.Common.{◌/◌}
use Rattle.lists.proofs.Powers.{two_to_is}
use Rattle.image_geometry.specs.View.{layout_by}
use Rattle.swizzle_split.proofs.Lows.{chunks_are}
use Rattle.swizzle_split.proofs.all_chunks.Goals as goal

pub returns-clause-value : goal.returns-clause-value
returns-clause-value c =
    λ es.
    let p = c.args.p in
    chunks_are (layout_by p es) _ _ _ (λ i. c.from.ensures i / c.parts.ensures.value es i) (two_to_is p.hard _ c.requires c.two_to.ensures.value) c.div_ceil.ensures
