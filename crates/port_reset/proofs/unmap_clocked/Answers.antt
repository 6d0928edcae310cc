-- `port_reset::unmap_clocked` meets its contract.
use Rattle.std.proofs.Common.{rules, refl}
use Rattle.std.proofs.lemmas.Result.{err_from_is_err_and}
use Rattle.rules.specs.Ports.{unmap_reset}
use Rattle.net_memory.specs.View.{memory_of}
use Rattle.log_entries.proofs.Emission.{unnamed, run_name}
use Rattle.port_unmap.specs.Ready.{own_flip_flop}
use Rattle.port_reset.proofs.Act.{clocked_err, clocked_ok}
use Rattle.port_reset.proofs.unmap_clocked.Goals as goal

pub returns-in_err-dry_refusal : goal.returns-in_err-dry_refusal
returns-in_err-dry_refusal c =
    let v = c.args in
    let e = err_from_is_err_and c.from_residual.result c.from_residual.ensures.1 in
    rw (e.1, e.2) (record { log_after = clocked_err v.m v.nets.now v.trits.now v.i v.c v.incl c.requires v.output.now v.log.now v.st _ c.in_err-dry_refusal.ensures; acted = refl })

pub shape_of-output : goal.shape_of-output
shape_of-output c = c.store_run.auto.to

pub shape_of-trits : goal.shape_of-trits
shape_of-trits c = c.blank.auto.trits

pub returns : goal.returns
returns c =
    let v = c.args in
    let u = c.emit_port-done in
    let s = c.output_start-start in
    let b = unmap_reset (memory_of v.m v.nets.now v.trits.now) v.i v.incl v.output.now (own_flip_flop v.m v.trits.now v.i v.c) in
    let a = run_name b _ _ u.ensures.log_after in
    let w = clocked_ok v.m v.nets.now v.trits.now v.i v.c v.incl c.requires v.output.now v.log.now v.st u.result.first u.result.last s.result c.unreset.result u.new.log.state c.blank.new.trits c.store_run.new.to u.new.log.words.now c.in_ok-dry_refusal.ensures (unnamed b 0 _ _ u.ensures.log_after) u.ensures.output_value (s.ensures.by_index v.nets.now v.trits.now) c.store_run.ensures c.blank.ensures c.unreset.ensures in
    record { log_after = search rules; acted = (c.unreset.ensures, c.blank.ensures) }
