-- `swizzle_reads::Reads::emit` meets its contract.
use mathlib.Core.Path.{refl, sym, ap, ◌∙◌}
use native.Mathlib.Omega.{arith}
use lib.ListN.{length}
use Rattle.rules.proofs.GoodLayouts.{some_told}
use Rattle.image_geometry.specs.View.{layout_of, shape_by}
use Rattle.image_check.specs.View.{checked_of}
use Rattle.swizzle_reads.specs.Going.{going_of, in_ports}
use Rattle.swizzle_reads.proofs.Start.{reads_refused, reads_narrow, reads_are, all_low, cols_low, measured}
use Rattle.swizzle_reads.proofs.Reads.emit.Goals as goal

pub returns-in_default-clause-ports_after : goal.returns-in_default-clause-ports_after
returns-in_default-clause-ports_after c =
    let v = c.args in
    reads_refused (layout_of v.q) (length v.scratch.now) (in_ports v.given.memory v.given.nets.now v.given.trits.now) v.wide.now v.output.now (going_of v.log.now v.self.now) (sym (ap checked_of c.in_default.is) ∙ c.check_layout.ensures.shape)

pub returns-then-q-eq0-clause-ports_after : goal.returns-then-q-eq0-clause-ports_after
returns-then-q-eq0-clause-ports_after c =
    let v = c.args in
    let s = c.in-Ok.shape in
    let t = some_told (layout_of v.q) (shape_by s) (sym (ap checked_of c.in-Ok.is) ∙ c.check_layout.ensures.shape) in
    reads_narrow (layout_of v.q) (length v.scratch.now) (in_ports v.given.memory v.given.nets.now v.given.trits.now) v.wide.now v.output.now (going_of v.log.now v.self.now) t.0 c.if-q-eq0.true

pub overflow_cast-sizes : goal.overflow_cast-sizes
overflow_cast-sizes c =
    let q = layout_of c.args.q in
    let s = c.in-Ok.shape in
    let t = some_told q (shape_by s) (sym (ap checked_of c.in-Ok.is) ∙ c.check_layout.ensures.shape) in
    omega (arith, all_low q t.0 c.if-q-eq0.false s.all_mems s.columns (shape_by s) t.1 refl refl)

pub overflow_cast-sizes-2 : goal.overflow_cast-sizes-2
overflow_cast-sizes-2 c =
    let q = layout_of c.args.q in
    let s = c.in-Ok.shape in
    let t = some_told q (shape_by s) (sym (ap checked_of c.in-Ok.is) ∙ c.check_layout.ensures.shape) in
    omega (arith, cols_low q t.0 c.if-q-eq0.false s.all_mems s.columns (shape_by s) t.1 refl refl)

pub invariant_of-rows : goal.invariant_of-rows
invariant_of-rows c =
    let q = layout_of c.args.q in
    let s = c.in-Ok.shape in
    let t = some_told q (shape_by s) (sym (ap checked_of c.in-Ok.is) ∙ c.check_layout.ensures.shape) in
    record { measures = measured q t.0 c.if-q-eq0.false s.all_mems s.columns (shape_by s) t.1 refl refl (record { mems = s.all_mems; columns = s.columns }) refl refl }

pub returns-clause-ports_after : goal.returns-clause-ports_after
returns-clause-ports_after c =
    let v = c.args in
    let s = c.in-Ok.shape in
    let t = some_told (layout_of v.q) (shape_by s) (sym (ap checked_of c.in-Ok.is) ∙ c.check_layout.ensures.shape) in
    reads_are (layout_of v.q) (length v.scratch.now) (in_ports v.given.memory v.given.nets.now v.given.trits.now) v.wide.now v.output.now (going_of v.log.now v.self.now) (going_of c.each_port.new.log c.each_port.new.self) t.0 c.if-q-eq0.false c.each_port.ensures.ports_after
