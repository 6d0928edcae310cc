-- `port_reset::dry_refusal` meets its contract.
use Rattle.log_entries.specs.View.{state_of}
use Rattle.log_entries.proofs.Emission.{dry_called, unnamed, run_name}
use Rattle.rules.specs.Ports.{unmap_reset}
use Rattle.net_memory.specs.View.{memory_of}
use Rattle.port_unmap.specs.Ready.{own_flip_flop}
use Rattle.port_reset.proofs.Bounds.{chains_reset}
use Rattle.port_reset.proofs.Port.{reset_below}
use Rattle.port_reset.proofs.dry_refusal.Goals as goal

pub returns : goal.returns
returns c =
    let v = c.args in
    let p = c.emit_port in
    let q = c.dry_refusal in
    let s = state_of v.st in
    let f = own_flip_flop v.given.memory v.given.trits.now v.i v.c in
    let w = memory_of v.given.memory v.given.nets.now v.given.trits.now in
    let n = run_name (unmap_reset w v.i v.incl v.output.now f) _ _ p.ensures.log_after in
    dry_called (unmap_reset w v.i v.incl v.output.now f) v.size s _ (chains_reset w v.i v.incl v.output.now f) (reset_below v.given.memory v.given.nets.now v.given.trits.now v.i v.c v.incl c.requires v.output.now s) p.new.log.words.now _ (state_of p.new.log.state) _ c.dry_start.ensures (unnamed (unmap_reset w v.i v.incl v.output.now f) 0 _ _ p.ensures.log_after) q.ensures
