-- `image_geometry::soft_bits` meets its contract.
use Rattle.image_geometry.proofs.Bits.{soft_ones}
use native.Mathlib.Omega.{arith}
use Rattle.image_geometry.proofs.soft_bits.Goals as goal

pub returns : goal.returns
returns c = soft_ones c.args.mask (omega (arith, c.ranges.mask))
