-- `merge_mux::mux_log_refusal` meets its contract.
use Rattle.rules.specs.Merge.{add_dedup_mux_of}
use Rattle.rules.proofs.Chain.{chains_dedup_mux}
use Rattle.net_value.specs.View.{control_of}
use Rattle.log_entries.specs.View.{state_of}
use Rattle.log_entries.proofs.Emission.{dry_called, unnamed}
use Rattle.merge_mux.specs.Results.{limited}
use Rattle.merge_mux.proofs.Most.{mux_below}
use Rattle.merge_mux.proofs.mux_log_refusal.Goals as goal

pub returns : goal.returns
returns c =
    let v = c.args in
    let t = add_dedup_mux_of (control_of v.select) (limited v.a.now) (limited v.b.now) in
    let p = c.emit_dedup_mux in
    let e = unnamed t 0 _ _ p.ensures.log_after in
    let q = c.dry_refusal in
    dry_called t v.room (state_of v.st) _ (chains_dedup_mux (control_of v.select) (limited v.a.now) (limited v.b.now)) (mux_below (control_of v.select) v.a.now v.b.now (state_of v.st))
    p.new.log.words.now _ (state_of p.new.log.state) _ c.dry_start.ensures e q.ensures
