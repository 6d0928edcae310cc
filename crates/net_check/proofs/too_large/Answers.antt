-- `net_check::too_large` meets its contract.
use mathlib.Core.Path.{refl, sym, ◌∙◌}
use native.Mathlib.Omega.{arith}
use lib.Dec.{ltb}
use borrow.Author.Tests.{le-ltb}
use Rattle.net_check.proofs.Tests.{passed}
use Rattle.net_memory.proofs.Sized.{writes_length, reads_length}
use Rattle.net_check.proofs.Sizes.{large_by}
use Rattle.net_check.proofs.too_large.Goals as goal

pub returns : goal.returns
returns c =
    let v = c.args in
    λ nets trits. let q = large_by v.m nets trits (omega (arith, writes_length v.m _ c.well_formed.0 nets)) (omega (arith, reads_length v.m _ c.well_formed.0 nets trits)) in
    passed (le-ltb _ _ c.if-m-gt-MAX_DEPTH.false) (passed (le-ltb _ _ c.if-m-gt-MAX_WIDTH.false) (passed ((λ k. ltb 32768 (sym c.product.ensures k)) ∙ le-ltb _ _ c.if-product-gt-MAX_BITS.false) (passed (le-ltb _ _ c.if-m-gt-MAX_PORTS.false) refl))) ∙ sym q
