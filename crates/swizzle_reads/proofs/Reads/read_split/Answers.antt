-- `swizzle_reads::Reads::read_split` meets its contract.
use mathlib.Core.Path.{refl, ap}
use Prim.Native.Nat.{ℕ, ◌+◌}
use Rattle.swizzle_result.specs.declared.WideReadPort.{WideReadPort}
use Rattle.swizzle_reads.specs.Going.{going_of, with_read_port}
use Rattle.swizzle_reads.proofs.Steps.{raw_by}
use Rattle.swizzle_reads.proofs.Reads.read_split.Goals as goal

pub returns-clause-ports_after : goal.returns-clause-ports_after
returns-clause-ports_after c =
    let v = c.args in
    let x = v.port in
    let q = v.x.rows.layout in
    raw_by q.params v.x.rows.sizes v.x.split x.number x.read.port x.read.trits.now v.hw.now v.mux.now q.entries.now x.output.now v.scratch.now (going_of v.log.now v.self.now) _ _ refl c.emit_port.ensures.log_after c.copy.ensures c.put_trits.ensures refl (ap (λ (k : ℕ). v.self.now.trits_at + k) c.trit_count.ensures) (ap (λ (y : WideReadPort). with_read_port v.self.now.memory x.number y) c.port_of.ensures) refl refl
