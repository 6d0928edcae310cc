-- The invariants of `image_rows::Rows::write_rows`.
use mathlib.Core.Path.{◌≡◌}
use Rattle.rules.specs.Image.{write_rows}
use Rattle.image_geometry.specs.View.{layout_of}
use Rattle.image_rows.specs.Steps.{OnSpot}
use Rattle.image_rows.proofs.Rows.write_rows.Given as goal

abbrev pub invariant-loop-number : goal.invariant-loop-number
invariant-loop-number l = (l.line.number ≡ l.number) × OnSpot l.self.layout.params l.line
    × (l.image ≡ write_rows (layout_of l.self.layout) l.rows l.number l.initial.image)
