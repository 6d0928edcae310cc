-- `merge_dff::log_refusal` meets its contract.
use Rattle.rules.specs.Merge.{add_dedup_dff_of}
use Rattle.rules.proofs.Chain.{chains_dedup_dff}
use Rattle.log_entries.specs.View.{state_of}
use Rattle.log_entries.proofs.Emission.{dry_called, unnamed}
use Rattle.net_flip_flop.specs.View.{controls_of}
use Rattle.merge_dff.proofs.Call.{dedup_below}
use Rattle.merge_dff.specs.Packs.{limited_dff}
use Rattle.merge_dff.proofs.log_refusal.Goals as goal

pub returns : goal.returns
returns c =
    let v = c.args in
    let f = limited_dff v.f in
    let p = c.emit_dedup_dff in
    let e = unnamed (add_dedup_dff_of f) 0 _ _ p.ensures.log_after in
    let q = c.dry_refusal in
    dry_called (add_dedup_dff_of f) v.room (state_of v.st) _ (chains_dedup_dff f) (dedup_below (controls_of v.f.controls) v.f.bits.now v.f.clear.now v.f.reset.now v.f.init.now (state_of v.st))
    p.new.log.words.now _ (state_of p.new.log.state) _ c.dry_start.ensures e q.ensures
