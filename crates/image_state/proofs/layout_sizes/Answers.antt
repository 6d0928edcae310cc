-- `image_state::layout_sizes` meets its contract.
use mathlib.Core.Path.{◌∙◌}
use Rattle.image_geometry.specs.View.{layout_by}
use Rattle.image_state.proofs.Counting.{sizes_none, sizes_some}
use Rattle.image_state.proofs.layout_sizes.Goals as goal

pub returns-then-p-eq0 : goal.returns-then-p-eq0
returns-then-p-eq0 c = λ es h. c.sizes_with.ensures ∙ sizes_none (layout_by c.args.p es) c.args.s h c.if-p-eq0.true

pub returns : goal.returns
returns c =
    let a = c.args in
    λ es h. c.sizes_with-2.ensures ∙ sizes_some (layout_by a.p es) a.s h c.if-p-eq0.false
