-- The measure of `swizzle_tree::tree`.
use lib.ListN.{length}
use Rattle.swizzle_tree.proofs.+tree.Given as goal

abbrev pub decreases-tree : goal.decreases-tree
decreases-tree l = length l.bits.now
