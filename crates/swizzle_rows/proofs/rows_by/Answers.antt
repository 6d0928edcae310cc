-- `swizzle_rows::rows_by` meets its contract.
use lib.ListN.{length}
use Rattle.log_entries.specs.View.{lent_of}
use Rattle.image_geometry.specs.View.{layout_of}
use Rattle.swizzle_reads.specs.Going.{going_of}
use Rattle.swizzle_rows.proofs.Sizes.{rows_by}
use Rattle.swizzle_rows.proofs.rows_by.Goals as goal

pub returns-clause-rows_by : goal.returns-clause-rows_by
returns-clause-rows_by c =
    let v = c.args in
    let e = c.emit in
    let w = c.swizzle_writes-w in
    rows_by (layout_of v.q) v.given.memory v.given.nets.now v.given.trits.now v.writes.now v.reads.now v.output.now (length v.scratch.now) (going_of v.log.now v.made.now) (going_of e.new.log e.new.self) v.s c.requires.1 (lent_of w.new.log) (record { room = w.new.to; at = w.result.used; ports = w.result.ports }) (w.ensures v.given.trits.now) _ c.start_memory-made.ensures e.ensures.ports_after
