-- `port_unmap::Clocked::dry_refusal` meets its contract.
use Rattle.log_entries.specs.View.{state_of}
use Rattle.log_entries.proofs.Emission.{dry_called, run_name}
use Rattle.rules.specs.Ports.{unmap_dff}
use Rattle.net_memory.specs.View.{memory_of}
use Rattle.port_overlay.proofs.Bounds.{chains_unmap}
use Rattle.port_unmap.specs.Ready.{own_flip_flop}
use Rattle.port_unmap.specs.Trace.{port_trace}
use Rattle.port_unmap.proofs.Port.{unmap_below, own_ran}
use Rattle.port_unmap.proofs.Clocked.dry_refusal.Goals as goal

pub returns : goal.returns
returns c =
    let v = c.args in
    let p = v.self.now in
    let e = c.emit in
    let q = c.dry_refusal in
    let s = state_of v.st in
    let f = own_flip_flop p.given.memory p.given.trits.now p.i p.controls in
    let n = run_name (port_trace (memory_of p.given.memory p.given.nets.now p.given.trits.now) p.i v.output.now f) _ _ (e.ensures.log_after c.requires.port.there) in
    dry_called (unmap_dff (memory_of p.given.memory p.given.nets.now p.given.trits.now) p.i v.output.now f) v.room s _ (chains_unmap (memory_of p.given.memory p.given.nets.now p.given.trits.now) p.i v.output.now f) (unmap_below p.given.memory p.given.nets.now p.given.trits.now p.i p.controls c.requires v.output.now s)
    e.new.log.words.now _ (state_of e.new.log.state) _ c.dry_start.ensures (own_ran p.given.memory p.given.nets.now p.given.trits.now p.i p.controls c.requires 0 v.output.now _ _ (e.ensures.log_after c.requires.port.there)) q.ensures
