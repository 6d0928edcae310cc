-- `image_rows::Rows::write_rows` meets its contract.
use Prim.Native.Nat.{ℕ, ◌+◌, ◌*◌, ◌-◌}
use mathlib.Core.Path.{refl, ap, ◌∙◌}
use mathlib.Core.List.{List}
use lib.ListN.{take, drop}
use Rattle.rules.specs.Image.{write_row}
use Rattle.image_geometry.specs.View.{layout_of}
use Rattle.image_rows.proofs.Filling.{rows_more, rows_none, row_lent}
use Rattle.image_rows.proofs.Rows.write_rows.Goals as goal

pub loop-number-init : goal.loop-number-init
loop-number-init c = (c.at-line.ensures.0, c.at-line.ensures.1, rows_none _ _ _)

pub loop-number-preserved : goal.loop-number-preserved
loop-number-preserved c =
    let a = c.args in
    let l = c.loop-number in
    let q = layout_of a.self.layout in
    let w = a.self.layout.params.width in (
      c.next-line.ensures.0 ∙ ap (λ (n : ℕ). n + 1) l.invariant.0,
      c.next-line.ensures.1,
      rows_more q a.rows.now l.number l.image _ _ l.invariant.2
          (c.write_row.ensures ∙ ap (λ (n : ℕ). write_row q n (take (l.number * w + w - l.number * w) (drop (l.number * w) a.rows.now)) l.image) l.invariant.0 ∙ ap (λ (v : List ℕ). write_row q l.number v l.image) (row_lent l.number w (l.number * w) w a.rows.now refl refl)),
    )
