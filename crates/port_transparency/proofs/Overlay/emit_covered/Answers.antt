-- `port_transparency::Overlay::emit_covered` meets its contract.
use mathlib.Core.Path.{refl}
use native.Mathlib.Omega.{arith}
use lib.ListN.{take}
use lib.Seq.{length-take-le}
use Rattle.log_entries.specs.View.{lent_of}
use Rattle.port_transparency.specs.Pairs.{Sized}
use Rattle.port_transparency.proofs.Covered.{covered-all}
use Rattle.port_transparency.proofs.Overlay.emit_covered.Goals as goal

pub returns : goal.returns
returns c =
    let v = c.args in
    let s = v.self.now in
    let p = c.emit_dedup_mux in
    let q = c.emit_bitwise_nets in
    let z : Sized (take v.n s.bits) (take v.n s.mask) v.n = record { few = c.requires; in_bits = length-take-le v.n s.bits (omega arith); in_mask = length-take-le v.n s.mask (omega arith) } in
    record {
      data_after = covered-all v.same v.n (take v.n s.mask) (take v.n s.bits) s.under c.copy.new.to s.spare c.fill.new.to q.new.nets s.select p.new.out
          (lent_of v.log.now) (lent_of p.new.log) (lent_of q.new.log) z (omega arith) (omega arith) (omega arith)
          (omega arith) (omega arith) (omega arith)
          c.fill.ensures p.ensures.log_after p.ensures.out_after q.ensures.log_after q.ensures.nets_after c.copy.ensures;
      mask_stays = refl;
    }
