-- `port_reset_emit::emit_choice` meets its contract.
use native.Mathlib.Omega.{arith}
use lib.ListN.{take}
use lib.Seq.{length-take-le}
use Rattle.log_entries.specs.View.{lent_of}
use Rattle.port_reset_emit.proofs.Behind.{choice_gave}
use Rattle.port_reset_emit.proofs.emit_choice.Goals as goal

pub returns : goal.returns
returns c =
    let v = c.args in
    let s = v.overlay.now in
    let q = c.emit_bitwise_nets in
    let r = c.emit_replace in
    choice_gave v.n (take v.n s.mask) (take v.n s.bits) (take v.n s.under) v.from.now s.spare q.new.nets (lent_of v.log.now) (lent_of q.new.log) (lent_of r.new.self) c.requires
    (length-take-le v.n s.mask (omega arith)) (length-take-le v.n s.bits (omega arith)) (length-take-le v.n s.under (omega arith)) (omega arith) q.ensures.log_after q.ensures.nets_after r.ensures
