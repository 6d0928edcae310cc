-- `fallback_row::emit_drive` meets its contract.
use lib.ListN.{take}
use Rattle.log_entries.specs.View.{lent_of}
use Rattle.fallback_row.proofs.Register.{driven-many, driven_high, driven_few}
use Rattle.fallback_row.proofs.emit_drive.Goals.{then-w-gt-MAX_MERGE-via-then-w-gt-MAX_MERGE, then-w-gt-MAX_MERGE-via-else-w-gt-MAX_MERGE+then-first-gt-MAX_NETS}
use Rattle.fallback_row.proofs.emit_drive.Goals as goal

pub returns-then-w-gt-MAX_MERGE : goal.returns-then-w-gt-MAX_MERGE
returns-then-w-gt-MAX_MERGE c =
    let v = c.args in
    elim c.then-w-gt-MAX_MERGE.branch [
      | then-w-gt-MAX_MERGE-via-then-w-gt-MAX_MERGE w ↦ driven-many v.first v.w (take v.w v.q.now) (lent_of v.log.now) w.if-w-gt-MAX_MERGE.true
      | then-w-gt-MAX_MERGE-via-else-w-gt-MAX_MERGE+then-first-gt-MAX_NETS w ↦ driven_high v.first v.w (take v.w v.q.now) (lent_of v.log.now) w.if-w-gt-MAX_MERGE.false w.if-first-gt-MAX_NETS.true
    ]

pub returns : goal.returns
returns c =
    let v = c.args in
    driven_few v.first v.w (take v.w v.q.now) (lent_of v.log.now) (lent_of c.drive.new.log) c.if-w-gt-MAX_MERGE.false c.if-first-gt-MAX_NETS.false c.drive.ensures
