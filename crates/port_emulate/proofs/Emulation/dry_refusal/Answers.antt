-- `port_emulate::Emulation::dry_refusal` meets its contract.
use Rattle.rules.specs.Ports.{emulate_read_before_write}
use Rattle.log_entries.specs.View.{state_of}
use Rattle.log_entries.proofs.Emission.{dry_called, unnamed, run_name}
use Rattle.net_memory.specs.View.{memory_of}
use Rattle.port_emulate.proofs.Delays.{chains_emulate}
use Rattle.port_emulate.proofs.Bounds.{writes_by, below, thin_is, shapes}
use Rattle.port_emulate.proofs.Number.{dry_run, few_writes}
use Rattle.port_emulate.proofs.Emulation.dry_refusal.Goals as goal

pub emit_ports-requires : goal.emit_ports-requires
emit_ports-requires c = c.requires

pub returns : goal.returns
returns c =
    λ y z b.
    let v = c.args in
    let m = v.self.memory.now in
    let x = v.nets.now in
    let M = memory_of m x y in
    let p = c.emit_ports in
    let q = c.dry_refusal in
    let f = few_writes m x y (writes_by m v.self.eight x) in
    let e = dry_run m x y v.self.all_x _ _ b (p.ensures x y) in
    let n = run_name (emulate_read_before_write M) _ _ e in
    dry_called (emulate_read_before_write M) v.size (state_of v.st) _ (chains_emulate M) (below M (thin_is v.st.next m x y z) (shapes v.st.next m x y z) f (state_of v.st))
    p.new.log.words.now _ (state_of p.new.log.state) _ c.dry_start.ensures (unnamed (emulate_read_before_write M) 0 _ _ e) q.ensures
