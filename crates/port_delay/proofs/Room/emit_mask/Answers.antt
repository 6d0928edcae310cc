-- `port_delay::Room::emit_mask` meets its contract.
use mathlib.Core.Path.{refl, ap, ◌∙◌}
use native.Mathlib.Omega.{arith}
use lib.ListN.{length, replicate}
use Rattle.net_value.specs.View.{control_of}
use Rattle.net_flip_flop.specs.View.{controls_of}
use Rattle.log_entries.specs.View.{lent_of}
use Rattle.port_delay.proofs.Delay.{first_filled, mask_gave}
use Rattle.port_delay.proofs.Room.emit_mask.Goals as goal

pub returns : goal.returns
returns c =
    let v = c.args in
    let s = v.self.now in
    let n = length v.mask.now in
    let q = first_filled s.starts c.fill.new.to n c.start_trit.result c.fill.ensures (omega arith) ∙ ap (replicate n) c.start_trit.ensures in
    let p = c.emit_dedup_dff in
    record {
      mask_after = mask_gave v.mask.now _ s.mask p.new.out v.all_x (control_of v.clock) (controls_of c.plain.result) (lent_of v.log.now) (lent_of p.new.log) c.plain.ensures q c.requires p.ensures.log_after p.ensures.out_after (omega arith);
      addr_stays = refl;
      bits_stay = refl;
    }
