-- `image_geometry::Layout::depths` meets its contract.
use mathlib.Core.Path.{◌≡◌, sym, ap, ◌∙◌}
use lib.ListN.{length}
use borrow.Author.Rules.{rules}
use native.Mathlib.Omega.{arith}
use Rattle.rules.specs.Geometry.{full_mems, all_mems, full_depth_of, part_depth_of}
use Rattle.rules.specs.Beside.Shape as sizes
use Rattle.rules.specs.Beside.Shape.{shape_of, depths_call, depths_refusal}
use Rattle.rules.specs.Refusal.{number, number_of}
use Rattle.rules.proofs.Answers.{filled-kept, filled-done}
use Rattle.rules.proofs.Shaping.{shape_told, shape_not_told, shape_small, depths_1, depths_20, depths_0, depths_stored}
use Rattle.rules.proofs.Extents.{deep_max, part_max}
use Rattle.rules.proofs.Places.{full_all}
use Rattle.image_geometry.specs.View.{layout_of, shape_by}
use Rattle.image_geometry.proofs.Layout.depths.Goals as goal

pub returns-in_err-s : goal.returns-in_err-s
unfolding depths_call
returns-in_err-s c =
    let q = layout_of c.args.self in
    let e : number_of c.from_residual.result ≡ number c.in_err-s.field-0.0 = search rules in
    let t = shape_not_told q (number c.in_err-s.field-0.0) c.in_err-s.ensures in
    let d : depths_refusal (length c.args.out.now) q ≡ number_of c.from_residual.result = depths_1 q _ t.1 ∙ sym (e ∙ t.0) in
    filled-kept (depths_refusal (length c.args.out.now) q) _ _ _ d (λ z. omega (arith, e, t.0))

pub returns-then-out-s : goal.returns-then-out-s
unfolding depths_call shape_of
returns-then-out-s c =
    let q = layout_of c.args.self in
    let told = shape_told q (shape_by c.in_ok-s.s) c.in_ok-s.ensures in
    let all_is : c.in_ok-s.s.all_mems ≡ all_mems q = ap (λ (s : sizes.Shape). s.all_mems) told.1 in
    filled-kept (depths_refusal (length c.args.out.now) q) 20 _ _ (depths_20 q _ told.0 (omega (arith, c.if-out-s.true, all_is))) (λ z. omega arith)

pub overflow_cast-s : goal.overflow_cast-s
unfolding shape_of
overflow_cast-s c =
    let q = layout_of c.args.self in
    let told = shape_told q (shape_by c.in_ok-s.s) c.in_ok-s.ensures in
    let deep_is : c.in_ok-s.s.full_depth ≡ full_depth_of q = ap (λ (s : sizes.Shape). s.full_depth_of) told.1 in
    omega (arith, deep_is, deep_max _ (shape_small _ told.0))

pub overflow_sub-all : goal.overflow_sub-all
unfolding shape_of
overflow_sub-all c =
    let q = layout_of c.args.self in
    let told = shape_told q (shape_by c.in_ok-s.s) c.in_ok-s.ensures in
    let all_is : c.in_ok-s.s.all_mems ≡ all_mems q = ap (λ (s : sizes.Shape). s.all_mems) told.1 in
    let full_is : c.in_ok-s.s.full_mems ≡ full_mems q = ap (λ (s : sizes.Shape). s.full_mems) told.1 in
    omega (arith, full_is, all_is, full_all q (shape_small _ told.0).unit_pos)

pub overflow_cast-s-2 : goal.overflow_cast-s-2
unfolding shape_of
overflow_cast-s-2 c =
    let q = layout_of c.args.self in
    let told = shape_told q (shape_by c.in_ok-s.s) c.in_ok-s.ensures in
    let part_is : c.in_ok-s.s.part_depth ≡ part_depth_of q = ap (λ (s : sizes.Shape). s.part_depth_of) told.1 in
    omega (arith, part_is, part_max _ (shape_small _ told.0))

pub returns : goal.returns
unfolding depths_call shape_of
returns c =
    let q = layout_of c.args.self in
    let told = shape_told q (shape_by c.in_ok-s.s) c.in_ok-s.ensures in
    let all_is : c.in_ok-s.s.all_mems ≡ all_mems q = ap (λ (s : sizes.Shape). s.all_mems) told.1 in
    let full_is : c.in_ok-s.s.full_mems ≡ full_mems q = ap (λ (s : sizes.Shape). s.full_mems) told.1 in
    let deep_is : c.in_ok-s.s.full_depth ≡ full_depth_of q = ap (λ (s : sizes.Shape). s.full_depth_of) told.1 in
    let part_is : c.in_ok-s.s.part_depth ≡ part_depth_of q = ap (λ (s : sizes.Shape). s.part_depth_of) told.1 in
    filled-done (depths_refusal (length c.args.out.now) q) c.args.out.now _ _
    (depths_0 q _ told.0 (omega (arith, c.if-out-s.false, all_is)))
    (depths_stored q c.args.out.now _ _ _ _ _ _ full_is all_is deep_is part_is c.fill.ensures c.fill-2.ensures)
