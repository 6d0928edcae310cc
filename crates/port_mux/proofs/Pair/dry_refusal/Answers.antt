-- `port_mux::Pair::dry_refusal` meets its contract.
use Rattle.std.specs.Prelude.{is_some}
use Rattle.rules.specs.Ports.{transparency_mux}
use Rattle.log_entries.specs.View.{state_of}
use Rattle.log_entries.proofs.Emission.{dry_called, unnamed}
use Rattle.net_memory.specs.Given.{mem_of}
use Rattle.port_overlay.proofs.Bounds.{chains_mux_at}
use Rattle.port_mux.specs.Call.{asked_of, given_mask}
use Rattle.port_mux.proofs.Passed.{mux_below}
use Rattle.port_mux.proofs.Pair.dry_refusal.Goals as goal

pub returns : goal.returns
returns c =
    let v = c.args in
    let p = c.emit in
    let q = c.dry_refusal in
    let s = state_of v.st in
    let w = mem_of v.self.given in
    let o = asked_of v.self.asked in
    dry_called (transparency_mux w v.self.i v.self.j o) v.room s _ (chains_mux_at w v.self.i v.self.j o) (mux_below v.self.given.memory v.self.given.nets.now v.self.given.trits.now v.self.i v.self.j (is_some v.self.asked.mask) v.self.asked.bits.now (given_mask v.self.asked.mask) c.requires s)
    p.new.log.words.now _ (state_of p.new.log.state) _ c.dry_start.ensures (unnamed (transparency_mux w v.self.i v.self.j o) 0 _ _ p.ensures.ran) q.ensures
