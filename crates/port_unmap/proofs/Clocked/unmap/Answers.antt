-- `port_unmap::Clocked::unmap` meets its contract.
use Rattle.std.proofs.Common.{rules}
use native.Mathlib.Omega.{arith}
use Rattle.std.proofs.lemmas.Result.{err_from_is_err_and}
use Rattle.net_memory.specs.View.{memory_of}
use Rattle.log_entries.proofs.Emission.{run_name}
use Rattle.port_unmap.specs.Ready.{own_flip_flop}
use Rattle.port_unmap.specs.Trace.{port_trace}
use Rattle.port_unmap.proofs.Port.{own_ran, port_few}
use Rattle.port_unmap.proofs.Act.{clocked_err, clocked_ok}
use Rattle.port_unmap.proofs.Clocked.unmap.Goals as goal

pub returns-in_err-dry_refusal : goal.returns-in_err-dry_refusal
returns-in_err-dry_refusal c =
    let v = c.args in
    let p = v.self.now in
    let e = err_from_is_err_and c.from_residual.result c.from_residual.ensures.1 in
    rw (e.1, e.2) (record { log_after = clocked_err p.given.memory p.given.nets.now p.given.trits.now p.i p.controls c.requires v.output.now v.log.now v.st _ c.in_err-dry_refusal.ensures; new_struct = tt })

pub unclock-requires : goal.unclock-requires
unclock-requires c = omega (arith, c.requires.port.there)

pub returns : goal.returns
returns c =
    let v = c.args in
    let p = v.self.now in
    let u = c.emit-last in
    let g = c.requires in
    let e = own_ran p.given.memory p.given.nets.now p.given.trits.now p.i p.controls g 0 v.output.now _ _ (u.ensures.log_after c.requires.port.there) in
    let n = run_name (port_trace (memory_of p.given.memory p.given.nets.now p.given.trits.now) p.i v.output.now (own_flip_flop p.given.memory p.given.trits.now p.i p.controls)) _ _ (u.ensures.log_after c.requires.port.there) in
    let w = clocked_ok p.given.memory p.given.nets.now p.given.trits.now p.i p.controls g v.output.now v.log.now v.st u.result c.output_start-start.result c.unclock.result u.new.log.state c.store_run.new.to u.new.log.words.now c.in_ok-dry_refusal.ensures e
    (port_few p.given.memory p.given.nets.now p.given.trits.now p.i p.controls g _ _ _ u.ensures.last_value) (c.output_start-start.ensures.by_index p.given.nets.now p.given.trits.now) c.store_run.ensures c.unclock.ensures in
    record { log_after = search rules; new_struct = c.unclock.ensures }
