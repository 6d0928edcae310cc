-- `swizzle_read::mux_addr` meets its contract.
use mathlib.Core.Path.{sym, ◌∙◌}
use lib.ListN.{length}
use Rattle.log_entries.specs.View.{lent_of}
use Rattle.swizzle_read.proofs.Steps.{addr_plain, addr_over, addr_stored, x_trits}
use Rattle.swizzle_read.proofs.mux_addr.Goals as goal

pub returns-in_default : goal.returns-in_default
returns-in_default c =
    let v = c.args in
    rw c.in_default.is (addr_plain v.mux.now v.room.now (lent_of v.log.now) _ c.copy.ensures)

pub addr_dff-requires : goal.addr_dff-requires
addr_dff-requires c = x_trits (length c.args.mux.now) c.requires

pub returns-then-is_over : goal.returns-then-is_over
returns-then-is_over c =
    let v = c.args in
    let r = c.addr_dff in
    rw c.in-Some.is (addr_over v.mux.now v.room.now (lent_of v.log.now) c.in-Some.port (lent_of r.new.log) r.ensures (sym c.is_over.ensures ∙ c.if-is_over.true))

pub returns : goal.returns
returns c =
    let v = c.args in
    let r = c.addr_dff in
    rw c.in-Some.is (addr_stored v.mux.now v.room.now (lent_of v.log.now) c.in-Some.port (lent_of r.new.log) _ r.ensures (sym c.is_over.ensures ∙ c.if-is_over.false) c.store_run.ensures)
