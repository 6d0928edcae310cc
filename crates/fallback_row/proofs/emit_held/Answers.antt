-- `fallback_row::emit_held` meets its contract.
use native.Mathlib.Omega.{arith}
use lib.ListN.{take}
use Rattle.net_value.specs.View.{control_of}
use Rattle.log_entries.specs.View.{lent_of}
use Rattle.fallback_row.proofs.Register.{held-many, held_few}
use Rattle.fallback_row.proofs.emit_held.Goals as goal

pub returns-then-w-gt-MAX_MERGE-clause-log_after : goal.returns-then-w-gt-MAX_MERGE-clause-log_after
returns-then-w-gt-MAX_MERGE-clause-log_after c =
    let v = c.args in
    held-many v.w (control_of v.clock) v.init.now (take v.w v.row.now.nets) (take v.w v.q.now) (lent_of v.log.now) c.if-w-gt-MAX_MERGE.true

pub held_row-requires : goal.held_row-requires
held_row-requires c = (c.if-w-gt-MAX_MERGE.false, omega arith)

pub returns-clause-log_after : goal.returns-clause-log_after
returns-clause-log_after c =
    let v = c.args in
    let p = c.held_row in
    held_few v.w (control_of v.clock) v.init.now (take v.w v.row.now.nets) (take v.w v.q.now) (lent_of v.log.now) (lent_of p.new.log) c.if-w-gt-MAX_MERGE.false p.ensures.log_after
