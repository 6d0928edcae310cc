-- `merge_mux::bitwise_log_refusal` meets its contract.
use Rattle.log_entries.specs.View.{state_of}
use Rattle.log_entries.proofs.Emission.{dry_called, unnamed}
use Rattle.merge_mux.specs.Runs.{bitwise_of}
use Rattle.merge_mux.proofs.Most.{chains_bitwise, bitwise_below}
use Rattle.merge_mux.proofs.bitwise_log_refusal.Goals as goal

pub returns : goal.returns
returns c =
    let v = c.args in
    let t = bitwise_of v.s.now v.a.now v.b.now in
    let p = c.emit_bitwise_nets in
    let e = unnamed t 0 _ _ p.ensures.log_after in
    let q = c.dry_refusal in
    dry_called t v.room (state_of v.st) _ (chains_bitwise v.s.now v.a.now v.b.now) (bitwise_below v.s.now v.a.now v.b.now (state_of v.st))
    p.new.log.words.now _ (state_of p.new.log.state) _ c.dry_start.ensures e q.ensures
