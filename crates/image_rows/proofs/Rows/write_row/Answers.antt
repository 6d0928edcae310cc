-- `image_rows::Rows::write_row` meets its contract.
use Prim.Native.Nat.{ℕ}
use mathlib.Core.Path.{ap, ◌∙◌}
use Rattle.rules.specs.Geometry.{row_len_of}
use Rattle.rules.specs.Image.{put_row, write_row}
use Rattle.rules.proofs.Shaping.{shape_small}
use Rattle.image_geometry.specs.View.{layout_of}
use Rattle.image_rows.proofs.Cursors.{lows, indexes}
use Rattle.image_rows.proofs.Rows.write_row.Goals as goal

pub put_entries-requires : goal.put_entries-requires
unfolding row_len_of
put_entries-requires c =
    let a = c.args in
    let r = c.args.self.ready in
    let q = layout_of a.self.layout in
    let z = shape_small q r.ready.sizes in
    record { lows = lows q z a.self.steps r.ready.steps a.line.number _ c.cursor_at-first.ensures c.requires.number_lt_depth.0 }

pub returns : goal.returns
unfolding write_row
returns c =
    let a = c.args in
    let r = c.args.self.ready in
    let q = layout_of a.self.layout in
    c.put_entries.ensures
    ∙ ap (λ (f : ℕ → ℕ). put_row f a.self.layout.entries.now 0 a.trits.now a.image.now) (indexes q (shape_small q r.ready.sizes) a.self.steps r.ready.steps a.line.number _ c.cursor_at-first.ensures)
