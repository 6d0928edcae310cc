-- `image_geometry::top_bits` meets its contract.
use Rattle.image_geometry.proofs.Bits.{tops_leading}
use native.Mathlib.Omega.{arith}
use Rattle.image_geometry.proofs.top_bits.Goals as goal

pub returns : goal.returns
returns c = omega (arith, tops_leading 32 c.args.word)
