-- `image_geometry::low_softs` meets its contract.
use Rattle.std.proofs.Common.{arith}
use Rattle.rules.proofs.Walks.{softs_le}
use Rattle.image_geometry.proofs.Bits.{low_softs}
use Rattle.image_geometry.proofs.low_softs.Goals as goal

pub returns-clause-value : goal.returns-clause-value
returns-clause-value c = low_softs _ _ _ _ _ (omega (arith, c.ranges.mask)) c.from.ensures c.two_to.ensures.value c.soft_bits.ensures

pub returns-clause-most : goal.returns-clause-most
returns-clause-most c =
    let v = c.args in
    omega (arith, softs_le v.k v.mask, low_softs v.k v.mask _ _ _ (omega (arith, c.ranges.mask)) c.from.ensures c.two_to.ensures.value c.soft_bits.ensures)
