-- `image_check::laid_shape` meets its contract.
use mathlib.Core.Path.{◌≡◌, sym, ap, ◌∙◌}
use mathlib.Core.Bool.{true, false}
use Rattle.rules.specs.Conditions.{image_too_large}
use Rattle.rules.proofs.GoodLayouts.{good_back, bad_1, bad_7, bad_8, bad_10, no_result, some_result, shape_none, shape_some}
use Rattle.rules.proofs.Shaping.{soft_passed, soft_failed}
use Rattle.image_geometry.specs.View.{layout_of}
use Rattle.image_geometry.proofs.Fields.{mask_small}
use Rattle.image_check.specs.View.{shape_if}
use Rattle.image_check.proofs.Telling.{not_measured, measured, refuses, passes}
use Rattle.image_check.proofs.laid_shape.Goals as goal
use Rattle.image_check.proofs.laid_shape.Goals.{else-p-ne0-via-then-p-ne0+else-is_too_large, else-p-ne0-via-else-p-ne0}

pub returns-in_err-s : goal.returns-in_err-s
returns-in_err-s c =
    let q = layout_of c.args.layout in
    ap shape_if c.from_residual.ensures ∙ shape_none q (bad_1 q (not_measured q c.measure.result c.measure.ensures c.in_err-s.ensures.value))

pub returns-then-entries_bad : goal.returns-then-entries_bad
returns-then-entries_bad c =
    let q = layout_of c.args.layout in
    let t = measured q c.measure.result c.in_ok-s.s c.measure.ensures c.in_ok-s.ensures.value in
    shape_none q (bad_7 q t.0 (sym c.entries_bad.ensures ∙ c.if-entries_bad.true))

pub returns-in_err-ok : goal.returns-in_err-ok
returns-in_err-ok c =
    let q = layout_of c.args.layout in
    let t = measured q c.measure.result c.in_ok-s.s c.measure.ensures c.in_ok-s.ensures.value in
    ap shape_if c.from_residual-in_err-ok.ensures
    ∙ shape_none q (bad_8 q t.0 (sym c.entries_bad.ensures ∙ c.if-entries_bad.false) (soft_failed _ _ (refuses _ c.check_soft_mask.result c.check_soft_mask.ensures c.in_err-ok.ensures.value)))

pub returns-then-is_too_large : goal.returns-then-is_too_large
returns-then-is_too_large c =
    let q = layout_of c.args.layout in
    let t = measured q c.measure.result c.in_ok-s.s c.measure.ensures c.in_ok-s.ensures.value in
    let soft = soft_passed _ _ (passes _ c.check_soft_mask.result _ c.check_soft_mask.ensures c.in_ok-ok.ensures.value) in
    shape_none q (bad_10 q t.0 (sym c.entries_bad.ensures ∙ c.if-entries_bad.false) soft (some_result q true c.if-p-ne0.true (sym (c.is_too_large.ensures q t.1) ∙ c.if-is_too_large.true)))

pub returns : goal.returns
returns c =
    let q = layout_of c.args.layout in
    let t = measured q c.measure.result c.in_ok-s.s c.measure.ensures c.in_ok-s.ensures.value in
    let fits : image_too_large q ≡ false = elim c.else-p-ne0.branch [
      | else-p-ne0-via-then-p-ne0+else-is_too_large w ↦ some_result q false w.if-p-ne0.true (sym (w.is_too_large.ensures q t.1) ∙ w.if-is_too_large.false)
      | else-p-ne0-via-else-p-ne0 w ↦ no_result q w.if-p-ne0.false
    ] in
    shape_some q _ (good_back q (record {
      sizes = t.0;
      entries = sym c.entries_bad.ensures ∙ c.if-entries_bad.false;
      soft = soft_passed _ _ (passes _ c.check_soft_mask.result _ c.check_soft_mask.ensures c.in_ok-ok.ensures.value);
      result = fits;
      mask = mask_small c.args.layout.params _ c.well_formed.0.1.1.0;
    })) t.1
