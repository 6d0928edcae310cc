-- `port_delay::emit_plain` meets its contract.
use mathlib.Core.Path.{◌∙◌}
use native.Mathlib.Omega.{arith}
use lib.ListN.{length}
use Rattle.net_value.specs.View.{control_of}
use Rattle.net_flip_flop.specs.View.{controls_of}
use Rattle.log_entries.specs.View.{lent_of}
use Rattle.port_delay.proofs.Delay.{first_filled, undef_is, plain_gave}
use Rattle.port_delay.proofs.emit_plain.Goals as goal

pub returns : goal.returns
returns c =
    let v = c.args in
    let n = length v.bits.now in
    let q = first_filled v.starts.now c.fill.new.to n 2 c.fill.ensures (omega arith) ∙ undef_is n in
    plain_gave v.bits.now _ _ (control_of v.clock) (controls_of c.plain.result) (lent_of v.log.now) (lent_of c.dff_into.new.log) c.plain.ensures q (c.dff_into.ensures (omega arith))
