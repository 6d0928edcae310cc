-- `image_rows::place_of` meets its contract.
use Rattle.image_geometry.specs.declared.Layout as lent
use Prim.Native.Nat.{ℕ, ◌<◌, ◌≤◌}
use lib.ListN.{length}
use mathlib.Core.Path.{◌≡◌, refl, sym, ap, ◌∙◌, subst}
use native.Mathlib.Omega.{arith}
use native.Mathlib.Nat.{le_of_lt}
use borrow.Author.Rules.{rules}
use Rattle.rules.specs.Limits.{addr_bits}
use Rattle.rules.specs.Geometry.{Spot, row_len_of, walk}
use Rattle.rules.specs.Image.{spot_of}
use Rattle.rules.specs.Answers.{Refused}
use Rattle.rules.specs.Refusal.{number}
use Rattle.rules.proofs.Shaping.{shape_told, shape_not_told, shape_small, placed_1, placed_15_row, placed_15_entry, placed_at}
use Rattle.image_geometry.specs.View.{layout_of, shape_by}
use Rattle.image_rows.specs.Steps.{At, Low, OnSpot, steps_of}
use Rattle.image_rows.specs.View.{placed_of}
use Rattle.image_rows.proofs.Sizing.{shape_shallow, shape_ready}
use Rattle.image_rows.proofs.Cursors.{at_low, place_is}
use Rattle.image_rows.proofs.place_of.Goals as goal
use Rattle.image_rows.proofs.place_of.Goals.{then-p-row-via-then-p-row, then-p-row-via-else-p-row+then-layout-entry}

pub returns-in_err-s : goal.returns-in_err-s
returns-in_err-s c =
    let q = layout_of c.args.layout in
    let t = shape_not_told q (number c.in_err-s.field-0.0) c.in_err-s.ensures in
    let e : placed_of c.from_residual.result ≡ Refused (number c.in_err-s.field-0.0) = search rules in
    e ∙ ap Refused t.0 ∙ placed_1 q _ _ t.1

pub returns-then-p-row : goal.returns-then-p-row
unfolding row_len_of
returns-then-p-row c =
    let q = layout_of c.args.layout in
    let t = shape_told q (shape_by c.in_ok-s.s) c.in_ok-s.ensures in
    elim c.then-p-row.branch [
      | then-p-row-via-then-p-row w ↦ placed_15_row q _ _ t.0 w.if-p-row.true
      | then-p-row-via-else-p-row+then-layout-entry w ↦ placed_15_entry q _ _ t.0 w.if-p-row.false w.if-layout-entry.true
    ]

pub of-rows-requires : goal.of-rows-requires
of-rows-requires c =
    let t = shape_told (layout_of c.args.layout) (shape_by c.in_ok-s.s) c.in_ok-s.ensures in
    let d = shape_shallow c.args.layout.params c.args.layout.entries.now c.in_ok-s.s t.0 t.1 in
    (d.0, d.1, record { ready = shape_ready c.args.layout.params c.args.layout.entries.now c.in_ok-s.s t.0 t.1 _ refl; plain_are = λ i l. absurd (omega arith) })

pub cursor_at-c-requires : goal.cursor_at-c-requires
cursor_at-c-requires c =
    let t = shape_told (layout_of c.args.layout) (shape_by c.in_ok-s.s) c.in_ok-s.ensures in
    let under : c.at-line.result.number < c.args.layout.params.depth = omega (arith, c.at-line.ensures.0, c.if-p-row.false) in
    record {
      number_lt_depth = subst (λ (l : lent.Layout). (c.at-line.result.number < l.params.depth) × (c.args.entry ≤ length l.entries.now) × OnSpot l.params c.at-line.result) (sym c.of-rows.ensures) (under, le_of_lt c.if-layout-entry.false, c.at-line.ensures.1);
    }

pub overflow_add-result : goal.overflow_add-result
unfolding row_len_of
overflow_add-result c =
    let q = layout_of c.args.layout in
    let t = shape_told q (shape_by c.in_ok-s.s) c.in_ok-s.ensures in
    let at_row : At q c.args.row c.args.entry c.cursor_at-c.result = subst (λ (n : ℕ). At q n c.args.entry c.cursor_at-c.result) c.at-line.ensures.0 (subst (λ (l : lent.Layout). At (layout_of l) c.at-line.result.number c.args.entry c.cursor_at-c.result) c.of-rows.ensures c.cursor_at-c.ensures) in
    let low : Low c.cursor_at-c.result (steps_of q) = at_low q (shape_small q t.0) c.args.row c.if-p-row.false c.args.entry _ at_row (le_of_lt c.if-layout-entry.false) in
    omega (arith, low.start_max, low.bit_under, low.unit_max)

pub returns : goal.returns
unfolding row_len_of spot_of
returns c =
    let q = layout_of c.args.layout in
    let p = c.args.layout.params in
    let t = shape_told q (shape_by c.in_ok-s.s) c.in_ok-s.ensures in
    let at_row : At q c.args.row c.args.entry c.cursor_at-c.result = subst (λ (n : ℕ). At q n c.args.entry c.cursor_at-c.result) c.at-line.ensures.0 (subst (λ (l : lent.Layout). At (layout_of l) c.at-line.result.number c.args.entry c.cursor_at-c.result) c.of-rows.ensures c.cursor_at-c.ensures) in
    placed_at q _ _ _ t.0 c.if-p-row.false c.if-layout-entry.false
    (place_is q c.args.row c.args.entry _ _ at_row (c.from.ensures ∙ ap (λ (s : Spot). s.row) c.at-line.ensures.1 ∙ ap (λ (n : ℕ). (walk addr_bits p.soft_mask p.hard n).row) c.at-line.ensures.0))
