-- `image_geometry::Layout::measure` meets its contract.
use mathlib.Core.Path.{refl, sym, ◌∙◌}
use Rattle.rules.specs.Geometry.{row_len_of}
use Rattle.rules.proofs.Shaping.{shape_refused, shape_done, shape_small}
use Rattle.image_geometry.specs.View.{layout_of}
use Rattle.image_geometry.proofs.Layout.measure.Goals as goal

pub returns-then-sizes_bad : goal.returns-then-sizes_bad
unfolding row_len_of
returns-then-sizes_bad c = shape_refused (layout_of c.args.self) (sym c.sizes_bad.ensures ∙ c.if-sizes_bad.true)

pub shape-requires : goal.shape-requires
unfolding row_len_of
shape-requires c = shape_small (layout_of c.args.self) (sym c.sizes_bad.ensures ∙ c.if-sizes_bad.false)

pub returns : goal.returns
unfolding row_len_of
returns c = shape_done (layout_of c.args.self) (sym c.sizes_bad.ensures ∙ c.if-sizes_bad.false) _ (c.shape.ensures c.args.self.entries.now refl)
