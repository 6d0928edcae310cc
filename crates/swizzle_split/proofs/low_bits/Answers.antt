-- `swizzle_split::low_bits` meets its contract.
use Rattle.swizzle_split.proofs.Lows.{low_is}
use Rattle.swizzle_split.proofs.low_bits.Goals as goal

pub returns-clause-value : goal.returns-clause-value
returns-clause-value c = low_is _ _ _ _ _ c.requires c.two_to-weight.ensures.value c.from-all.ensures c.low_softs.ensures.value
