-- `swizzle_parts::memories::Memories::image_start` meets its contract.
use Rattle.std.proofs.Common.{refl}
use Rattle.swizzle_parts.proofs.Depths.{start_is}
use Rattle.swizzle_parts.proofs.memories.Memories.image_start.Goals as goal

pub returns : goal.returns
returns c = start_is c.args.self.g c.args.n _ _ _ _ c.min-low.ensures refl refl refl
