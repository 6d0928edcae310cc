-- `fallback_rows::emit_lowered` meets its contract.
use Rattle.log_entries.specs.View.{lent_of}
use Rattle.fallback_rows.proofs.Rows.{unit_past, mems_past, within}
use Rattle.fallback_rows.proofs.emit_lowered.Goals as goal

pub returns-then-g-gt-MAX_UNIT : goal.returns-then-g-gt-MAX_UNIT
returns-then-g-gt-MAX_UNIT c =
    let v = c.args in
    unit_past v.g v.nets.now v.image.now (lent_of v.log.now) c.if-g-gt-MAX_UNIT.true

pub returns-then-g-gt-MAX_COLUMNS : goal.returns-then-g-gt-MAX_COLUMNS
returns-then-g-gt-MAX_COLUMNS c =
    let v = c.args in
    mems_past v.g v.nets.now v.image.now (lent_of v.log.now) c.if-g-gt-MAX_UNIT.false c.if-g-gt-MAX_COLUMNS.true

pub returns : goal.returns
returns c =
    let v = c.args in
    let p = c.emit_each in
    within v.g v.nets.now v.image.now (lent_of v.log.now) (lent_of p.new.log) c.if-g-gt-MAX_UNIT.false (c.if-g-gt-MAX_COLUMNS.false) p.ensures
