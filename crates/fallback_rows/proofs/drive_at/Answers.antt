-- `fallback_rows::drive_at` meets its contract.
use native.Mathlib.Omega.{arith}
use lib.ListN.{take}
use Rattle.log_entries.specs.View.{lent_of}
use Rattle.fallback_rows.proofs.Rows.{driven_past}
use Rattle.fallback_rows.proofs.drive_at.Goals as goal

pub returns-then-first-gt-MAX_NETS : goal.returns-then-first-gt-MAX_NETS
returns-then-first-gt-MAX_NETS c =
    let v = c.args in
    driven_past v.first v.before v.w (take v.w v.q.now) (lent_of v.log.now) c.if-first-gt-MAX_NETS.true

pub overflow_add-first : goal.overflow_add-first
overflow_add-first c = omega (arith, c.requires, c.if-first-gt-MAX_NETS.false)

pub returns : goal.returns
returns c = c.emit_drive.ensures
