-- `swizzle_rows::emit_rows` meets its contract.
use mathlib.Core.Path.{sym, ap, ◌∙◌}
use lib.ListN.{length}
use Rattle.rules.proofs.GoodLayouts.{some_told}
use Rattle.image_geometry.specs.View.{layout_of, shape_by}
use Rattle.image_check.specs.View.{checked_of}
use Rattle.image_state.proofs.Counting.{counted}
use Rattle.swizzle_reads.specs.Going.{going_of}
use Rattle.swizzle_rows.proofs.Sizes.{measured, refused_ran, narrow_ran, rows_ran}
use Rattle.swizzle_rows.proofs.emit_rows.Goals as goal

pub returns-in_default-clause-rows_ran : goal.returns-in_default-clause-rows_ran
returns-in_default-clause-rows_ran c =
    let v = c.args in
    refused_ran (layout_of v.q) v.given.memory v.given.nets.now v.given.trits.now v.writes.now v.reads.now v.output.now (length v.scratch.now) (going_of v.log.now v.made.now) (sym (ap checked_of c.in_default.is) ∙ c.check_layout.ensures.shape)

pub rows_by-requires : goal.rows_by-requires
rows_by-requires c =
    let q = layout_of c.args.q in
    let s = c.in-Ok.s in
    let t = some_told q (shape_by s) (sym (ap checked_of c.in-Ok.is) ∙ c.check_layout.ensures.shape) in
    (counted q s t.1 t.0, measured q s t.1)

pub returns-then-q-ne0-clause-rows_ran : goal.returns-then-q-ne0-clause-rows_ran
returns-then-q-ne0-clause-rows_ran c =
    let v = c.args in
    let t = some_told (layout_of v.q) (shape_by c.in-Ok.s) (sym (ap checked_of c.in-Ok.is) ∙ c.check_layout.ensures.shape) in
    let r = c.rows_by in
    rows_ran (layout_of v.q) v.given.memory v.given.nets.now v.given.trits.now v.writes.now v.reads.now v.output.now (length v.scratch.now) (going_of v.log.now v.made.now) (going_of r.new.log r.new.made) t.0 c.if-q-ne0.true r.ensures.rows_by

pub returns-else-q-ne0-clause-rows_ran : goal.returns-else-q-ne0-clause-rows_ran
returns-else-q-ne0-clause-rows_ran c =
    let v = c.args in
    let t = some_told (layout_of v.q) (shape_by c.in-Ok.s) (sym (ap checked_of c.in-Ok.is) ∙ c.check_layout.ensures.shape) in
    narrow_ran (layout_of v.q) v.given.memory v.given.nets.now v.given.trits.now v.writes.now v.reads.now v.output.now (length v.scratch.now) (going_of v.log.now v.made.now) t.0 c.if-q-ne0.false
