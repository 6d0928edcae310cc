-- `swizzle_parts::image_part` meets its contract.
use borrow.Author.Tests.{not-true, not-false}
use mathlib.Core.Path.{sym, ap, ◌∙◌}
use Prim.Native.Nat.{◌-◌}
use Rattle.lists.specs.Lists.{part}
use native.Mathlib.Omega.{arith}
use native.Mathlib.Numerals.{add-one}
use Rattle.rules.specs.Ports.{Driving}
use Rattle.swizzle_result.specs.View.{start_by}
use Rattle.swizzle_parts.proofs.Found.{there_is, found, gone}
use Rattle.swizzle_parts.proofs.Depths.{start_more}
use mathlib.Core.Bool.{not}
use Rattle.swizzle_parts.proofs.image_part.Goals as goal

pub returns-then-not-is_there : goal.returns-then-not-is_there
returns-then-not-is_there c =
    let v = c.args in
    λ nets trits image. (λ x. part (c.default.ensures.0 x) (c.default.ensures.1 x) image) ∙ sym (ap (λ (d : Driving). d.memory.init) (gone v.g v.n nets trits image (sym c.is_there.ensures ∙ not-true _ (ap not c.if-not-is_there.true))))

pub invariant_of-m : goal.invariant_of-m
invariant_of-m c = record { small = (there_is c.args.g c.args.n (sym c.is_there.ensures ∙ not-false _ (ap not c.if-not-is_there.false))).small }

pub image_start-start-requires : goal.image_start-start-requires
image_start-start-requires c =
    let v = c.args in
    let t = there_is v.g v.n (sym c.is_there.ensures ∙ not-false _ (ap not c.if-not-is_there.false)) in
    omega (arith, t.below, t.small.mems_small)

pub overflow_add-n : goal.overflow_add-n
overflow_add-n c =
    let v = c.args in
    let t = there_is v.g v.n (sym c.is_there.ensures ∙ not-false _ (ap not c.if-not-is_there.false)) in
    omega (arith, t.below, t.small.mems_small)

pub image_start-end-requires : goal.image_start-end-requires
image_start-end-requires c =
    let v = c.args in
    let t = there_is v.g v.n (sym c.is_there.ensures ∙ not-false _ (ap not c.if-not-is_there.false)) in
    omega (arith, t.below, t.small.mems_small)

pub overflow_sub-result : goal.overflow_sub-result
overflow_sub-result c =
    let v = c.args in
    omega (arith, start_more v.g v.n, c.image_start-start.ensures, c.image_start-end.ensures)

pub returns : goal.returns
returns c =
    let v = c.args in
    λ nets trits image. (λ x. part (c.image_start-start.ensures x) ((c.image_start-end.ensures ∙ ap (start_by v.g) (add-one v.n)) x - c.image_start-start.ensures x) image) ∙ sym (ap (λ (d : Driving). d.memory.init) (found v.g v.n nets trits image (sym c.is_there.ensures ∙ not-false _ (ap not c.if-not-is_there.false))))
