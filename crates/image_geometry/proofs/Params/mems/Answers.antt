-- `image_geometry::Params::mems` meets its contract.
use mathlib.Core.Path.{sym, ◌∙◌, subst}
use Prim.Native.Nat.{ℕ, ◌≤◌}
use Rattle.lists.proofs.Powers.{two_to_is}
use Rattle.image_geometry.proofs.Bits.{ceil_is}
use Rattle.image_geometry.proofs.Sizing.{Held, soft_max, unit_small, mems_none, mems_some}
use native.Mathlib.Omega.{arith}
use Rattle.image_geometry.proofs.Params.mems.Goals as goal

pub returns-then-part-eq0 : goal.returns-then-part-eq0
returns-then-part-eq0 c =
    let held : Held c.args.self c.soft_bits.result c.two_to-parts.result c.two_to-deep.result c.from.result c.from-unit.result = record { bits_is = c.soft_bits.ensures; parts_is = two_to_is _ _ (subst (λ (n : ℕ). n ≤ 32) (sym c.soft_bits.ensures) (soft_max _)) c.two_to-parts.ensures.value; deep_is = two_to_is _ _ (omega (arith, c.requires.hard_max)) c.two_to-deep.ensures.value; depth_is = c.from.ensures; unit_is = c.from-unit.ensures } in
    λ es l. mems_none _ _ c.requires _ _ _ _ _ held es l _ (c.div_ceil-full.ensures ∙ ceil_is _ _ (unit_small _ _ c.requires _ _ _ _ _ held).0) c.if-part-eq0.true

pub returns-else-part-eq0 : goal.returns-else-part-eq0
returns-else-part-eq0 c =
    let held : Held c.args.self c.soft_bits.result c.two_to-parts.result c.two_to-deep.result c.from.result c.from-unit.result = record { bits_is = c.soft_bits.ensures; parts_is = two_to_is _ _ (subst (λ (n : ℕ). n ≤ 32) (sym c.soft_bits.ensures) (soft_max _)) c.two_to-parts.ensures.value; deep_is = two_to_is _ _ (omega (arith, c.requires.hard_max)) c.two_to-deep.ensures.value; depth_is = c.from.ensures; unit_is = c.from-unit.ensures } in
    let u = (unit_small _ _ c.requires _ _ _ _ _ held).0 in
    λ es l. mems_some _ _ c.requires _ _ _ _ _ held es l _ _ (c.div_ceil-full.ensures ∙ ceil_is _ _ u) (c.div_ceil-all.ensures ∙ ceil_is _ _ u) c.if-part-eq0.false
