-- `image_rows::Rows::cursor_at` meets its contract.
use mathlib.Core.Path.{refl}
use native.Mathlib.Omega.{arith}
use Rattle.rules.specs.Geometry.{row_len_of}
use Rattle.rules.specs.Image.{spot_of}
use Rattle.rules.proofs.Shaping.{shape_small}
use Rattle.image_geometry.specs.View.{layout_of, view_spot}
use Rattle.image_rows.proofs.Cursors.{Held, held_at, product_fits, column_fits, unit_pos, above_fits, full_fits, over_fits, made}
use Rattle.image_rows.proofs.Rows.cursor_at.Goals as goal

pub overflow_mul-column : goal.overflow_mul-column
unfolding row_len_of spot_of
overflow_mul-column c =
    let q = layout_of c.args.self.layout in
    let small = shape_small q c.args.self.ready.ready.sizes in
    let n = c.requires.number_lt_depth in
    let held : Held q c.args.self.steps c.args.line.number c.from.result c.args.line.spot.row = held_at q c.args.self.steps c.args.line.number (view_spot c.args.line.spot) _ _ c.args.self.ready.ready.steps n.2 c.from.ensures refl in
    omega (arith, product_fits q small c.args.self.steps c.args.line.number c.args.entry n.0 n.1 _ _ held)

pub overflow_add-column : goal.overflow_add-column
unfolding row_len_of spot_of
overflow_add-column c =
    let q = layout_of c.args.self.layout in
    let small = shape_small q c.args.self.ready.ready.sizes in
    let n = c.requires.number_lt_depth in
    let held : Held q c.args.self.steps c.args.line.number c.from.result c.args.line.spot.row = held_at q c.args.self.steps c.args.line.number (view_spot c.args.line.spot) _ _ c.args.self.ready.ready.steps n.2 c.from.ensures refl in
    omega (arith, column_fits q small c.args.self.steps c.args.line.number c.args.entry n.0 n.1 _ _ held)

pub nonzero_div-memory : goal.nonzero_div-memory
unfolding row_len_of spot_of
nonzero_div-memory c =
    let q = layout_of c.args.self.layout in
    let small = shape_small q c.args.self.ready.ready.sizes in
    let n = c.requires.number_lt_depth in
    let held : Held q c.args.self.steps c.args.line.number c.from.result c.args.line.spot.row = held_at q c.args.self.steps c.args.line.number (view_spot c.args.line.spot) _ _ c.args.self.ready.ready.steps n.2 c.from.ensures refl in
    unit_pos q small c.args.self.steps c.args.line.number c.args.entry n.0 n.1 _ _ held

pub nonzero_rem-bit : goal.nonzero_rem-bit
unfolding row_len_of spot_of
nonzero_rem-bit c =
    let q = layout_of c.args.self.layout in
    let small = shape_small q c.args.self.ready.ready.sizes in
    let n = c.requires.number_lt_depth in
    let held : Held q c.args.self.steps c.args.line.number c.from.result c.args.line.spot.row = held_at q c.args.self.steps c.args.line.number (view_spot c.args.line.spot) _ _ c.args.self.ready.ready.steps n.2 c.from.ensures refl in
    unit_pos q small c.args.self.steps c.args.line.number c.args.entry n.0 n.1 _ _ held

pub overflow_mul-above : goal.overflow_mul-above
unfolding row_len_of spot_of
overflow_mul-above c =
    let q = layout_of c.args.self.layout in
    let small = shape_small q c.args.self.ready.ready.sizes in
    let n = c.requires.number_lt_depth in
    let held : Held q c.args.self.steps c.args.line.number c.from.result c.from-2.result = held_at q c.args.self.steps c.args.line.number (view_spot c.args.line.spot) _ _ c.args.self.ready.ready.steps n.2 c.from.ensures c.from-2.ensures in
    omega (arith, above_fits q small c.args.self.steps c.args.line.number c.args.entry n.0 n.1 _ _ held)

pub overflow_mul-result : goal.overflow_mul-result
unfolding row_len_of spot_of
overflow_mul-result c =
    let q = layout_of c.args.self.layout in
    let small = shape_small q c.args.self.ready.ready.sizes in
    let n = c.requires.number_lt_depth in
    let held : Held q c.args.self.steps c.args.line.number c.from.result c.from-2.result = held_at q c.args.self.steps c.args.line.number (view_spot c.args.line.spot) _ _ c.args.self.ready.ready.steps n.2 c.from.ensures c.from-2.ensures in
    omega (arith, full_fits q small c.args.self.steps c.args.line.number c.args.entry n.0 n.1 _ _ held c.min-full.result c.min-full.ensures)

pub overflow_mul-result-2 : goal.overflow_mul-result-2
unfolding row_len_of spot_of
overflow_mul-result-2 c =
    let q = layout_of c.args.self.layout in
    let small = shape_small q c.args.self.ready.ready.sizes in
    let n = c.requires.number_lt_depth in
    let held : Held q c.args.self.steps c.args.line.number c.from.result c.from-2.result = held_at q c.args.self.steps c.args.line.number (view_spot c.args.line.spot) _ _ c.args.self.ready.ready.steps n.2 c.from.ensures c.from-2.ensures in
    omega (arith, over_fits q small c.args.self.steps c.args.line.number c.args.entry n.0 n.1 _ _ held c.min-full.result c.min-full.ensures)

pub overflow_add-result : goal.overflow_add-result
unfolding row_len_of spot_of
overflow_add-result c =
    let q = layout_of c.args.self.layout in
    let small = shape_small q c.args.self.ready.ready.sizes in
    let n = c.requires.number_lt_depth in
    let held : Held q c.args.self.steps c.args.line.number c.from.result c.from-2.result = held_at q c.args.self.steps c.args.line.number (view_spot c.args.line.spot) _ _ c.args.self.ready.ready.steps n.2 c.from.ensures c.from-2.ensures in
    omega (arith, full_fits q small c.args.self.steps c.args.line.number c.args.entry n.0 n.1 _ _ held c.min-full.result c.min-full.ensures, over_fits q small c.args.self.steps c.args.line.number c.args.entry n.0 n.1 _ _ held c.min-full.result c.min-full.ensures)

pub overflow_add-result-2 : goal.overflow_add-result-2
unfolding row_len_of spot_of
overflow_add-result-2 c =
    let q = layout_of c.args.self.layout in
    let small = shape_small q c.args.self.ready.ready.sizes in
    let n = c.requires.number_lt_depth in
    let held : Held q c.args.self.steps c.args.line.number c.from.result c.from-2.result = held_at q c.args.self.steps c.args.line.number (view_spot c.args.line.spot) _ _ c.args.self.ready.ready.steps n.2 c.from.ensures c.from-2.ensures in
    omega (arith, full_fits q small c.args.self.steps c.args.line.number c.args.entry n.0 n.1 _ _ held c.min-full.result c.min-full.ensures, over_fits q small c.args.self.steps c.args.line.number c.args.entry n.0 n.1 _ _ held c.min-full.result c.min-full.ensures, above_fits q small c.args.self.steps c.args.line.number c.args.entry n.0 n.1 _ _ held)

pub returns : goal.returns
unfolding row_len_of spot_of
returns c =
    let q = layout_of c.args.self.layout in
    let small = shape_small q c.args.self.ready.ready.sizes in
    let n = c.requires.number_lt_depth in
    let held : Held q c.args.self.steps c.args.line.number c.from.result c.from-2.result = held_at q c.args.self.steps c.args.line.number (view_spot c.args.line.spot) _ _ c.args.self.ready.ready.steps n.2 c.from.ensures c.from-2.ensures in
    made q small c.args.self.steps c.args.line.number c.args.entry n.0 n.1 _ _ held c.min-full.result c.min-full.ensures
