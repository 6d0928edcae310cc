-- `port_reset_emit::emit_mask` meets its contract.
use mathlib.Core.Path.{refl, ap, ◌∙◌}
use native.Mathlib.Omega.{arith}
use lib.ListN.{take, replicate}
use lib.Seq.{length-take-le}
use Rattle.log_entries.specs.View.{lent_of}
use Rattle.net_flip_flop.specs.View.{controls_of}
use Rattle.port_reset_emit.proofs.Behind.{first_filled, mask_gave}
use Rattle.port_reset_emit.proofs.emit_mask.Goals as goal

pub returns : goal.returns
returns c =
    let v = c.args in
    let s = v.mask.now in
    let p = c.emit_dedup_dff in
    let x = first_filled s.ones c.fill.new.to v.n 1 c.fill.ensures (omega arith) in
    let y = first_filled s.starts c.fill-2.new.to v.n c.start_trit.result c.fill-2.ensures (omega arith) ∙ ap (replicate v.n) c.start_trit.ensures in
    record {
      mask_after = mask_gave (controls_of v.c) v.initial v.n (take v.n s.over) (length-take-le v.n s.over (omega arith)) _ _ v.overlay.now.mask p.new.out (lent_of v.log.now) (lent_of p.new.log) x y c.requires (omega arith) p.ensures.log_after p.ensures.out_after;
      data_stays = refl;
    }
