-- `merge_mux::emit::emit_dedup_mux` meets its contract.
use Rattle.log_entries.specs.View.{lent_of}
use Rattle.net_value.specs.View.{control_of}
use Rattle.merge_mux.proofs.Mux.{merged-run, merged-results}
use Rattle.merge_mux.proofs.emit.emit_dedup_mux.Goals as goal

pub returns : goal.returns
returns c =
    let v = c.args in
    let k = c.merge-kept in
    let p = c.emit_kept_mux in
    record {
      log_after = merged-run (control_of v.select) v.a.now v.b.now v.out.now _ v.to k.result k.ensures (lent_of v.log.now) (lent_of p.new.log) p.ensures.log_after p.ensures.out_after;
      out_after = merged-results (control_of v.select) v.a.now v.b.now v.out.now _ v.to k.result k.ensures (lent_of v.log.now) (lent_of p.new.log) p.ensures.log_after p.ensures.out_after;
    }
