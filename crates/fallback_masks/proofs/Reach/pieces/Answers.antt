-- `fallback_masks::Reach::pieces` meets its contract.
use native.Mathlib.Omega.{arith}
use Rattle.fallback_masks.proofs.Numbers.{pieces_low, pieces_is}
use Rattle.fallback_masks.proofs.Reach.pieces.Goals as goal

pub overflow_mul-result : goal.overflow_mul-result
overflow_mul-result c =
    let v = c.args in
    omega (arith, pieces_low v.self.depth v.self.rows _ v.wide _ c.min-most.ensures, v.self.shallow)

pub returns : goal.returns
returns c =
    let v = c.args in
    (λ k e. pieces_is v.self.depth v.self.rows v.addr v.wide k _ _ _ c.min-bits.ensures c.two_to.ensures.value c.min-most.ensures e, pieces_low v.self.depth v.self.rows _ v.wide _ c.min-most.ensures)
