-- `image_rows::Rows::take_row` meets its contract.
use Prim.Native.Nat.{ℕ}
use mathlib.Core.Path.{ap, ◌∙◌, subst}
use Rattle.rules.specs.Geometry.{row_len_of}
use Rattle.rules.proofs.Shaping.{shape_small}
use Rattle.image_geometry.specs.View.{layout_of}
use Rattle.image_rows.specs.Steps.{At, take_row}
use Rattle.image_rows.proofs.Cursors.{lows, indexes}
use Rattle.image_rows.proofs.Rows.take_row.Goals as goal

pub take_entries-requires : goal.take_entries-requires
unfolding row_len_of
take_entries-requires c =
    let a = c.args in
    let r = c.args.self.ready in
    let q = layout_of a.self.layout in
    let at_row : At q a.row 0 c.cursor_at-first.result = subst (λ (n : ℕ). At q n 0 c.cursor_at-first.result) c.at.ensures.0 c.cursor_at-first.ensures in
    lows q (shape_small q r.ready.sizes) a.self.steps r.ready.steps a.row _ at_row c.requires.row_lt_depth

pub returns : goal.returns
returns c =
    let a = c.args in
    let r = c.args.self.ready in
    let q = layout_of a.self.layout in
    let at_row : At q a.row 0 c.cursor_at-first.result = subst (λ (n : ℕ). At q n 0 c.cursor_at-first.result) c.at.ensures.0 c.cursor_at-first.ensures in
    c.take_entries.ensures
    ∙ ap (λ (f : ℕ → ℕ). take_row f a.self.layout.entries.now 0 a.image.now a.room.now) (indexes q (shape_small q r.ready.sizes) a.self.steps r.ready.steps a.row _ at_row)
