-- `port_empty::empty_refusal` meets its contract.
use native.Mathlib.Omega.{arith}
use Rattle.log_entries.specs.View.{state_of}
use Rattle.log_entries.proofs.Emission.{dry_called, unnamed, run_name}
use Rattle.net_memory.specs.View.{memory_of}
use Rattle.net_memory.proofs.Sized.{reads_length}
use Rattle.port_unmap_all.proofs.Short.{reads_are}
use Rattle.port_empty.specs.Empty.{emptied_if}
use Rattle.port_empty.proofs.Empty.{chains_empty}
use Rattle.port_empty.proofs.Bounds.{empty_below}
use Rattle.port_empty.proofs.empty_refusal.Goals as goal

pub returns : goal.returns
returns c =
    let v = c.args in
    let p = c.emit_empty in
    let w = memory_of v.given.memory v.given.nets.now v.given.trits.now in
    let t = emptied_if w v.output.now in
    let s = state_of v.st in
    let n = run_name t _ _ p.ensures in
    dry_called t v.room s _ (chains_empty w v.output.now) (empty_below w v.output.now (omega (arith, reads_are v.given.memory v.given.nets.now v.given.trits.now (reads_length v.given.memory _ c.well_formed.1.1.0.1.1.0 v.given.nets.now v.given.trits.now))) s)
    p.new.log.words.now _ (state_of p.new.log.state) _ c.dry_start.ensures (unnamed t 0 _ _ p.ensures) c.dry_refusal.ensures
