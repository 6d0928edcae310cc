-- `swizzle_call::act` meets its contract.
use mathlib.Core.Path.{refl, sym, ◌∙◌}
use lib.ListN.{length}
use Rattle.rules.specs.Geometry.{layout_of}
use Rattle.net_memory.specs.View.{memory_of}
use Rattle.net_memory.proofs.Sized.{writes_length, reads_length}
use Rattle.image_geometry.specs.View.{layout_by}
use Rattle.swizzle_plan.specs.Calls.{plan_of}
use Rattle.swizzle_counts.proofs.Rowed.{mem_width, mem_depth_lem}
use Rattle.swizzle_reads.specs.Going.{going_of}
use Rattle.swizzle_call.proofs.Cases.{flat_acted, empty_acted, ran_acted, ran_ports, scratch_kept, rooms_of}
use Rattle.swizzle_call.proofs.act.Goals as goal

pub returns-then-given-eq0-clause-acted : goal.returns-then-given-eq0-clause-acted
returns-then-given-eq0-clause-acted c =
    let v = c.args in
    let mem = memory_of v.asked.given.memory v.asked.given.nets.now v.asked.given.trits.now in
    let plan = plan_of v.asked.plan.swizzle v.asked.plan.entries.now v.asked.plan.writes.now v.asked.plan.reads.now in
    flat_acted mem v.asked.output.now plan (layout_of mem plan) (mem_width v.asked.given.memory v.asked.given.nets.now v.asked.given.trits.now ∙ c.if-given-eq0.true) v.made.now c.requires.none_yet v.log.now

pub returns-then-given-eq0-clause-holds_ports : goal.returns-then-given-eq0-clause-holds_ports
returns-then-given-eq0-clause-holds_ports c =
    let v = c.args in
    λ w d. absurd (w (mem_width v.asked.given.memory v.asked.given.nets.now v.asked.given.trits.now ∙ c.if-given-eq0.true))

pub returns-then-given-eq0-2-clause-acted : goal.returns-then-given-eq0-2-clause-acted
returns-then-given-eq0-2-clause-acted c =
    let v = c.args in
    let mem = memory_of v.asked.given.memory v.asked.given.nets.now v.asked.given.trits.now in
    let plan = plan_of v.asked.plan.swizzle v.asked.plan.entries.now v.asked.plan.writes.now v.asked.plan.reads.now in
    empty_acted (rooms_of c.requires.passed.image v.made.now.nets.now v.made.now.trits.now v.scratch.now) (length v.log.now.words.now) v.log.now.state v.asked.given.memory v.asked.given.nets.now v.asked.given.trits.now v.asked.output.now plan c.requires.passed.zero (layout_of mem plan) (λ f. c.if-given-eq0.false (sym (mem_width v.asked.given.memory v.asked.given.nets.now v.asked.given.trits.now) ∙ f)) (mem_depth_lem v.asked.given.memory v.asked.given.nets.now v.asked.given.trits.now ∙ c.if-given-eq0-2.true) v.made.now c.requires.none_yet v.log.now c.emit_empty.new.log c.emit_empty.ensures

pub returns-then-given-eq0-2-clause-holds_ports : goal.returns-then-given-eq0-2-clause-holds_ports
returns-then-given-eq0-2-clause-holds_ports c =
    let v = c.args in
    λ w d. absurd (d (mem_depth_lem v.asked.given.memory v.asked.given.nets.now v.asked.given.trits.now ∙ c.if-given-eq0-2.true))

pub returns-clause-acted : goal.returns-clause-acted
returns-clause-acted c =
    let v = c.args in
    let mem = memory_of v.asked.given.memory v.asked.given.nets.now v.asked.given.trits.now in
    let plan = plan_of v.asked.plan.swizzle v.asked.plan.entries.now v.asked.plan.writes.now v.asked.plan.reads.now in
    let e = c.emit_rows in
    let p = c.layout-q in
    let x = layout_by p.result.params p.result.entries.now in
    let q = p.ensures.layout in
    ran_acted (rooms_of c.requires.passed.image v.made.now.nets.now v.made.now.trits.now v.scratch.now) (length v.log.now.words.now) v.log.now.state v.asked.given.memory v.asked.given.nets.now v.asked.given.trits.now v.asked.output.now plan c.requires.passed.zero (λ f. c.if-given-eq0.false (sym (mem_width v.asked.given.memory v.asked.given.nets.now v.asked.given.trits.now) ∙ f)) (λ f. c.if-given-eq0-2.false (sym (mem_depth_lem v.asked.given.memory v.asked.given.nets.now v.asked.given.trits.now) ∙ f)) (writes_length v.asked.given.memory _ c.well_formed.1.1.1.0.1.1.0.1.1.0 v.asked.given.nets.now) (reads_length v.asked.given.memory _ c.well_formed.1.1.1.0.1.1.0.1.1.0 v.asked.given.nets.now v.asked.given.trits.now) v.log.now.words.now v.made.now.nets.now v.made.now.trits.now v.log.now.words.ghost_name v.made.now.nets.ghost_name v.made.now.trits.ghost_name refl refl (length v.scratch.now) refl v.made.now.nets_at v.made.now.trits_at v.made.now.memory (going_of e.new.log e.new.made) x q e.ensures.rows_ran

pub returns-clause-scratch_unchanged : goal.returns-clause-scratch_unchanged
returns-clause-scratch_unchanged c =
    let v = c.args in
    let mem = memory_of v.asked.given.memory v.asked.given.nets.now v.asked.given.trits.now in
    let plan = plan_of v.asked.plan.swizzle v.asked.plan.entries.now v.asked.plan.writes.now v.asked.plan.reads.now in
    let e = c.emit_rows in
    let p = c.layout-q in
    let x = layout_by p.result.params p.result.entries.now in
    let q = p.ensures.layout in
    scratch_kept (rooms_of c.requires.passed.image v.made.now.nets.now v.made.now.trits.now v.scratch.now) (length v.log.now.words.now) v.log.now.state v.asked.given.memory v.asked.given.nets.now v.asked.given.trits.now v.asked.output.now plan c.requires.passed.zero (λ f. c.if-given-eq0.false (sym (mem_width v.asked.given.memory v.asked.given.nets.now v.asked.given.trits.now) ∙ f)) (λ f. c.if-given-eq0-2.false (sym (mem_depth_lem v.asked.given.memory v.asked.given.nets.now v.asked.given.trits.now) ∙ f)) (writes_length v.asked.given.memory _ c.well_formed.1.1.1.0.1.1.0.1.1.0 v.asked.given.nets.now) (reads_length v.asked.given.memory _ c.well_formed.1.1.1.0.1.1.0.1.1.0 v.asked.given.nets.now v.asked.given.trits.now) x q v.scratch.now e.new.scratch e.ensures.all_kept

pub returns-clause-holds_ports : goal.returns-clause-holds_ports
returns-clause-holds_ports c =
    let v = c.args in
    let mem = memory_of v.asked.given.memory v.asked.given.nets.now v.asked.given.trits.now in
    let plan = plan_of v.asked.plan.swizzle v.asked.plan.entries.now v.asked.plan.writes.now v.asked.plan.reads.now in
    let e = c.emit_rows in
    let p = c.layout-q in
    let x = layout_by p.result.params p.result.entries.now in
    let q = p.ensures.layout in
    λ w d. ran_ports (rooms_of c.requires.passed.image v.made.now.nets.now v.made.now.trits.now v.scratch.now) (length v.log.now.words.now) v.log.now.state v.asked.given.memory v.asked.given.nets.now v.asked.given.trits.now v.asked.output.now plan c.requires.passed.zero (λ f. c.if-given-eq0.false (sym (mem_width v.asked.given.memory v.asked.given.nets.now v.asked.given.trits.now) ∙ f)) (λ f. c.if-given-eq0-2.false (sym (mem_depth_lem v.asked.given.memory v.asked.given.nets.now v.asked.given.trits.now) ∙ f)) (writes_length v.asked.given.memory _ c.well_formed.1.1.1.0.1.1.0.1.1.0 v.asked.given.nets.now) (reads_length v.asked.given.memory _ c.well_formed.1.1.1.0.1.1.0.1.1.0 v.asked.given.nets.now v.asked.given.trits.now) v.log.now.words.now v.made.now.nets.now v.made.now.trits.now v.log.now.words.ghost_name v.made.now.nets.ghost_name v.made.now.trits.ghost_name refl refl (length v.scratch.now) refl v.made.now.nets_at v.made.now.trits_at v.made.now.memory (going_of e.new.log e.new.made) x q e.ensures.rows_ran
