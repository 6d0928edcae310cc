-- `fallback_rows::Memories::emit_row` meets its contract.
use mathlib.Core.Path.{refl}
use mathlib.Core.List.{[]}
use lib.ListN.{take}
use Rattle.log_entries.specs.View.{lent_of}
use Rattle.fallback_rows.proofs.Rows.{row_not, row_ran}
use Rattle.fallback_rows.proofs.Memories.emit_row.Goals as goal

pub returns-then-init-self : goal.returns-then-init-self
returns-then-init-self c =
    let v = c.args in
    row_not v.self.now.g v.self.now.nets.now v.self.now.image.now v.n v.n refl _ (c.image_of-init.ensures v.self.now.nets.now []) (lent_of v.log.now) (λ h. c.if-init-self.true (h))

pub returns : goal.returns
returns c =
    let v = c.args in
    let p = c.row_nets in
    let d = c.drive_all in
    row_ran v.self.now.g v.self.now.nets.now v.self.now.image.now v.n v.n refl _ (c.image_of-init.ensures v.self.now.nets.now []) (lent_of v.log.now) (lent_of p.new.log) (lent_of d.new.log) (take v.self.now.g.unit p.new.room.held) (c.if-init-self.false) (p.ensures [] v.self.now.image.now) d.ensures
