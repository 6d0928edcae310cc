-- `image_geometry::Params::shape` meets its contract.
use Rattle.image_geometry.proofs.Sizing.{first_fits, full_under, second_fits, third_fits, columns_fit, shape_none, shape_some}
use native.Mathlib.Omega.{arith}
use Rattle.image_geometry.proofs.Params.shape.Goals as goal

pub overflow_mul-trits : goal.overflow_mul-trits
overflow_mul-trits c = omega (arith, first_fits _ _ c.requires _ c.mems-m.ensures)

pub overflow_sub-trits : goal.overflow_sub-trits
overflow_sub-trits c = full_under _ _ c.requires _ c.mems-m.ensures

pub overflow_mul-trits-2 : goal.overflow_mul-trits-2
overflow_mul-trits-2 c = omega (arith, second_fits _ _ c.requires _ c.mems-m.ensures)

pub overflow_add-trits : goal.overflow_add-trits
overflow_add-trits c =
    omega (arith, first_fits _ _ c.requires _ c.mems-m.ensures, second_fits _ _ c.requires _ c.mems-m.ensures)

pub overflow_mul-trits-3 : goal.overflow_mul-trits-3
overflow_mul-trits-3 c = omega (arith, third_fits _ _ c.requires _ c.mems-m.ensures _ c.from-unit.ensures)

pub overflow_mul-result : goal.overflow_mul-result
overflow_mul-result c = omega (arith, columns_fit _ _ c.requires _ c.mems-m.ensures _ c.from-unit.ensures)

pub returns-then-self-eq0 : goal.returns-then-self-eq0
returns-then-self-eq0 c = λ es l. shape_none _ _ c.requires _ c.mems-m.ensures _ c.from-unit.ensures es l c.if-self-eq0.true

pub returns-else-self-eq0 : goal.returns-else-self-eq0
returns-else-self-eq0 c = λ es l. shape_some _ _ c.requires _ c.mems-m.ensures _ c.from-unit.ensures es l c.if-self-eq0.false
