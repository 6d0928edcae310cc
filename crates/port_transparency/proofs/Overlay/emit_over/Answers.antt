-- `port_transparency::Overlay::emit_over` meets its contract.
use mathlib.Core.Path.{refl}
use native.Mathlib.Omega.{arith}
use Rattle.log_entries.specs.View.{lent_of}
use Rattle.port_transparency.proofs.Covered.{over-all}
use Rattle.port_transparency.proofs.Overlay.emit_over.Goals as goal

pub returns : goal.returns
returns c =
    let v = c.args in
    let s = v.self.now in
    let o = c.emit_or in
    let f = c.store_run in
    let q = c.emit_dedup_mux in
    record {
      mask_after = over-all v.same v.n s.mask v.over.now c.copy.new.to s.spare f.new.to s.select q.new.out
          (lent_of v.log.now) (lent_of o.new.self) (lent_of q.new.log) c.requires (omega arith) (omega arith) (omega arith) (omega arith) (omega arith)
          o.ensures f.ensures q.ensures.log_after q.ensures.out_after c.copy.ensures;
      data_stays = refl;
    }
